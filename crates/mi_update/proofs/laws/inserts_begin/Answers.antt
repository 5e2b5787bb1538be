use Rattle.mi_update.proofs.OthersLemmas.{insert_begins, insert_since_begins}
use Rattle.mi_update.proofs.laws.inserts_begin.Goals as goal

pub returns-clause-ready : goal.returns-clause-ready
returns-clause-ready c = insert_begins

pub returns-clause-since : goal.returns-clause-since
returns-clause-since c = insert_since_begins
