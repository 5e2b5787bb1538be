use Rattle.mi_update.proofs.InsertLemmas.{since_kept}
use Rattle.mi_update.proofs.laws.inserts_go_on.Goals as goal

pub returns : goal.returns
returns c = since_kept
