use Rattle.mi_tree.proofs.OrderLemmas.{cat_in_order}
use Rattle.mi_tree.proofs.laws.cat_ascends.Goals as goal

pub returns : goal.returns
returns c = cat_in_order
