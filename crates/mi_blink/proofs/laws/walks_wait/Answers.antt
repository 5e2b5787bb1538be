use Rattle.mi_blink.proofs.OthersLemmas.{walk_stays, so_far_stays, whole_stays}
use Rattle.mi_blink.proofs.laws.walks_wait.Goals as goal

pub returns-clause-ready : goal.returns-clause-ready
returns-clause-ready c = walk_stays

pub returns-clause-so_far : goal.returns-clause-so_far
returns-clause-so_far c = so_far_stays

pub returns-clause-whole : goal.returns-clause-whole
returns-clause-whole c = whole_stays
