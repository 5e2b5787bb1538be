use Rattle.mi_job.proofs.EndLemmas.{job_small}
use Rattle.mi_job.proofs.laws.jobs_are_short.Goals as goal

pub returns : goal.returns
returns c = job_small
