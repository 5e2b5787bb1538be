use Rattle.mi_hall.proofs.SplitPlaces.{uncopies_down_seated, uncopies_right_seated, uncopies_seated}
use Rattle.mi_hall.proofs.splits.uncopies_follow.Goals as goal

pub returns-clause-down : goal.returns-clause-down
returns-clause-down c = uncopies_down_seated

pub returns-clause-right : goal.returns-clause-right
returns-clause-right c = uncopies_right_seated

pub returns-clause-done : goal.returns-clause-done
returns-clause-done c = uncopies_seated
