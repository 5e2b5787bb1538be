use Rattle.mi_job.proofs.EndLemmas.{job_ends}
use Rattle.mi_job.proofs.laws.jobs_end.Goals as goal

pub returns-clause-ended : goal.returns-clause-ended
returns-clause-ended c = job_ends
