use Rattle.mi_update.proofs.FinishLemmas.{insert_ends, insert_finishes, insert_owes}
use Rattle.mi_update.proofs.laws.inserts_end.Goals as goal

pub returns-clause-finishes : goal.returns-clause-finishes
returns-clause-finishes c = insert_finishes

pub returns-clause-ended : goal.returns-clause-ended
returns-clause-ended c = insert_ends

pub returns-clause-owes : goal.returns-clause-owes
returns-clause-owes c = insert_owes
