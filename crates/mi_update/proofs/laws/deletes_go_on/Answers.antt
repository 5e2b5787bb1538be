use Rattle.mi_update.proofs.DeleteLemmas.{since_kept}
use Rattle.mi_update.proofs.laws.deletes_go_on.Goals as goal

pub returns : goal.returns
returns c = since_kept
