use Rattle.mi_job.proofs.OthersLemmas.{job_stays, since_rises, since_stays, ticked_stays}
use Rattle.mi_job.proofs.laws.jobs_wait.Goals as goal

pub returns-clause-ready : goal.returns-clause-ready
returns-clause-ready c = λ job v w o. job_stays v w o job

pub returns-clause-rises : goal.returns-clause-rises
returns-clause-rises c = λ job v w o. since_rises v w o job

pub returns-clause-since : goal.returns-clause-since
returns-clause-since c = λ job v w o. since_stays v w o job

pub returns-clause-ticked : goal.returns-clause-ticked
returns-clause-ticked c = λ job v w o first k r h. ticked_stays v w o job first k r h
