use Rattle.mi_solo.proofs.WorkEvents.{gives_sweep, gives_split, gives_nothing}
use Rattle.mi_solo.proofs.boards.work_is_given.Goals as goal

pub returns-clause-sweep : goal.returns-clause-sweep
returns-clause-sweep c = gives_sweep

pub returns-clause-split : goal.returns-clause-split
returns-clause-split c = gives_split

pub returns-clause-nothing : goal.returns-clause-nothing
returns-clause-nothing c = gives_nothing
