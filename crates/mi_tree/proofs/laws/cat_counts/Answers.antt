use Rattle.mi_tree.proofs.CountLemmas.{counts_within, counts_some}
use Rattle.mi_tree.proofs.laws.cat_counts.Goals as goal

pub returns-clause-within : goal.returns-clause-within
returns-clause-within c = counts_within

pub returns-clause-some : goal.returns-clause-some
returns-clause-some c = counts_some
