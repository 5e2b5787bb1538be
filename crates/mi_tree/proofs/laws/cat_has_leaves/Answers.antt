use Rattle.mi_tree.proofs.CountLemmas.{cat_has}
use Rattle.mi_tree.proofs.laws.cat_has_leaves.Goals as goal

pub returns : goal.returns
returns c = cat_has
