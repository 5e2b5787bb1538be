use Rattle.mi_job.proofs.EndLemmas.{care_small}
use Rattle.mi_job.proofs.laws.cares_are_short.Goals as goal

pub returns : goal.returns
returns c = care_small
