use Rattle.mi_tree.proofs.OrderLemmas.{leaves_in_order}
use Rattle.mi_tree.proofs.laws.leaves_are_in_order.Goals as goal

pub returns : goal.returns
returns c = leaves_in_order
