use Rattle.mi_tree.proofs.CountLemmas.{cat_whole}
use Rattle.mi_tree.proofs.laws.cat_without_pivots.Goals as goal

pub returns : goal.returns
returns c = cat_whole
