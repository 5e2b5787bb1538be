use Rattle.mi_entries.proofs.AbsentLemmas.{rising}
use Rattle.mi_entries.proofs.GatherLemmas.{more_work}
use Rattle.mi_entries.proofs.laws.gathers_keep_splits.Goals as goal

pub returns : goal.returns
returns c = λ s limits log legal actors retired entries places ascend node own w work inside. more_work s limits log legal actors retired entries places (rising entries ascend) node own w work inside
