use Rattle.mi_forest.proofs.WalkLemmas.{loss_on}
use Rattle.mi_forest.proofs.laws.losses_go_on.Goals as goal

pub returns : goal.returns
returns c = loss_on
