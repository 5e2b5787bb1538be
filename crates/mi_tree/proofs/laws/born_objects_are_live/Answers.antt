use Rattle.mi_tree.proofs.BirthLemmas.{born_live}
use Rattle.mi_tree.proofs.laws.born_objects_are_live.Goals as goal

pub returns : goal.returns
returns c = born_live
