use Rattle.mi_session.proofs.SessionLemmas.{front_rises, reply_between}
use Rattle.mi_session.proofs.laws.fronts_never_fall.Goals as goal

pub returns-clause-rises : goal.returns-clause-rises
returns-clause-rises c = front_rises

pub returns-clause-between : goal.returns-clause-between
returns-clause-between c = reply_between
