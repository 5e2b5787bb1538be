use Rattle.mi_job.proofs.OthersLemmas.{care_stays, task_keeps}
use Rattle.mi_job.proofs.laws.cares_wait.Goals as goal

pub returns-clause-ready : goal.returns-clause-ready
returns-clause-ready c = λ care v w o. care_stays v w o care

pub returns-clause-keeps : goal.returns-clause-keeps
returns-clause-keeps c = λ care v w o owed early. task_keeps v w o owed early care.task
