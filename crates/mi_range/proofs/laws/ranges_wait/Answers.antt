use Rattle.mi_range.proofs.OthersLemmas.{ready_stays}
use Rattle.mi_range.proofs.laws.ranges_wait.Goals as goal

pub returns-clause-ready : goal.returns-clause-ready
returns-clause-ready c = ready_stays
