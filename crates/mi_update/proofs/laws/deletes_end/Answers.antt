use Rattle.mi_update.proofs.FinishLemmas.{delete_ends, delete_finishes}
use Rattle.mi_update.proofs.laws.deletes_end.Goals as goal

pub returns-clause-finishes : goal.returns-clause-finishes
returns-clause-finishes c = delete_finishes

pub returns-clause-ended : goal.returns-clause-ended
returns-clause-ended c = delete_ends
