use Rattle.mi_forest.proofs.GrowLemmas.{grows_keep, grows_flat}
use Rattle.mi_forest.proofs.laws.roots_grow.Goals as goal

pub returns : goal.returns
returns c = λ f g h q key child w. (grows_keep f g h q key child w, grows_flat f g h q key child w)
