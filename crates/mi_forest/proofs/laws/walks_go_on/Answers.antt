use Rattle.mi_forest.proofs.WalkLemmas.{walk_on}
use Rattle.mi_forest.proofs.laws.walks_go_on.Goals as goal

pub returns : goal.returns
returns c = walk_on
