use Rattle.mi_update.proofs.OthersLemmas.{delete_begins, delete_since_begins}
use Rattle.mi_update.proofs.laws.deletes_begin.Goals as goal

pub returns-clause-ready : goal.returns-clause-ready
returns-clause-ready c = delete_begins

pub returns-clause-since : goal.returns-clause-since
returns-clause-since c = delete_since_begins
