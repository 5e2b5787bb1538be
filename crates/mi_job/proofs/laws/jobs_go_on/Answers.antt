use Rattle.mi_job.proofs.EndLemmas.{since_kept}
use Rattle.mi_job.proofs.laws.jobs_go_on.Goals as goal

pub returns-clause-since : goal.returns-clause-since
returns-clause-since c = since_kept
