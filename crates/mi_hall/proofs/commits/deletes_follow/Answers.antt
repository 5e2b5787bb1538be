use Rattle.mi_hall.proofs.CommitPlaces.{deletes_down_seated, deletes_right_seated, deletes_full_seated, deletes_seated}
use Rattle.mi_hall.proofs.commits.deletes_follow.Goals as goal

pub returns-clause-down : goal.returns-clause-down
returns-clause-down c = deletes_down_seated

pub returns-clause-right : goal.returns-clause-right
returns-clause-right c = deletes_right_seated

pub returns-clause-full : goal.returns-clause-full
returns-clause-full c = deletes_full_seated

pub returns-clause-done : goal.returns-clause-done
returns-clause-done c = deletes_seated
