use Rattle.mi_tree.proofs.LegalLemmas.{one_live}
use Rattle.mi_tree.proofs.laws.live_objects_stand_once.Goals as goal

pub returns : goal.returns
returns c = one_live
