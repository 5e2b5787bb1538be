use Rattle.mi_nearest.proofs.OthersLemmas.{ready_stays, since_stays}
use Rattle.mi_nearest.proofs.laws.nearests_wait.Goals as goal

pub returns-clause-ready : goal.returns-clause-ready
returns-clause-ready c = ready_stays

pub returns-clause-since : goal.returns-clause-since
returns-clause-since c = since_stays
