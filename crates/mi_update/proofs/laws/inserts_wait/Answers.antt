use Rattle.mi_update.proofs.OthersLemmas.{insert_since_rises, insert_since_stays, insert_stays, waits_stay}
use Rattle.mi_update.proofs.laws.inserts_wait.Goals as goal

pub returns-clause-ready : goal.returns-clause-ready
returns-clause-ready c = insert_stays

pub returns-clause-rises : goal.returns-clause-rises
returns-clause-rises c = insert_since_rises

pub returns-clause-since : goal.returns-clause-since
returns-clause-since c = insert_since_stays

pub returns-clause-split : goal.returns-clause-split
returns-clause-split c = waits_stay
