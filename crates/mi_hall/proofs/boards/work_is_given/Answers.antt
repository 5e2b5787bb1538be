use Rattle.mi_hall.proofs.BoardPlaces.{sweep_seated, split_seated, idle_seated}
use Rattle.mi_hall.proofs.boards.work_is_given.Goals as goal

pub returns-clause-sweep : goal.returns-clause-sweep
returns-clause-sweep c = sweep_seated

pub returns-clause-split : goal.returns-clause-split
returns-clause-split c = split_seated

pub returns-clause-nothing : goal.returns-clause-nothing
returns-clause-nothing c = idle_seated
