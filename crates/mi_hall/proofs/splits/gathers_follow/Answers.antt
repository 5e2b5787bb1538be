use Rattle.mi_hall.proofs.SplitPlaces.{gathers_down_seated, gathers_right_seated, gathers_none_seated, gathers_seated}
use Rattle.mi_hall.proofs.splits.gathers_follow.Goals as goal

pub returns-clause-down : goal.returns-clause-down
returns-clause-down c = gathers_down_seated

pub returns-clause-right : goal.returns-clause-right
returns-clause-right c = gathers_right_seated

pub returns-clause-memory : goal.returns-clause-memory
returns-clause-memory c = gathers_none_seated

pub returns-clause-read : goal.returns-clause-read
returns-clause-read c = gathers_seated
