use Rattle.mi_hall.proofs.PagePlaces.{sweeps_down_seated, sweeps_right_seated, sweeps_seated}
use Rattle.mi_hall.proofs.pages.sweeps_follow.Goals as goal

pub returns-clause-down : goal.returns-clause-down
returns-clause-down c = sweeps_down_seated

pub returns-clause-right : goal.returns-clause-right
returns-clause-right c = sweeps_right_seated

pub returns-clause-read : goal.returns-clause-read
returns-clause-read c = sweeps_seated
