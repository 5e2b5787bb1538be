use Rattle.mi_forest.proofs.WalkLemmas.{lost_unseen}
use Rattle.mi_forest.proofs.laws.losses_are_unseen.Goals as goal

pub returns : goal.returns
returns c = lost_unseen
