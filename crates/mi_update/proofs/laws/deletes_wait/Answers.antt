use Rattle.mi_update.proofs.OthersLemmas.{delete_since_rises, delete_since_stays, delete_stays}
use Rattle.mi_update.proofs.laws.deletes_wait.Goals as goal

pub returns-clause-ready : goal.returns-clause-ready
returns-clause-ready c = delete_stays

pub returns-clause-rises : goal.returns-clause-rises
returns-clause-rises c = delete_since_rises

pub returns-clause-since : goal.returns-clause-since
returns-clause-since c = delete_since_stays
