use Rattle.mi_forest.proofs.AllotLemmas.{allots_keep, allots_flat}
use Rattle.mi_forest.proofs.laws.hands_are_filled.Goals as goal

pub returns : goal.returns
returns c = λ f g h w. (allots_keep f g h w, allots_flat f g h w)
