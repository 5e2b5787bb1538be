use Rattle.mi_hall.proofs.SplitPlaces.{copies_down_seated, copies_right_seated, copies_full_seated, copies_seated}
use Rattle.mi_hall.proofs.splits.copies_follow.Goals as goal

pub returns-clause-down : goal.returns-clause-down
returns-clause-down c = copies_down_seated

pub returns-clause-right : goal.returns-clause-right
returns-clause-right c = copies_right_seated

pub returns-clause-page_full : goal.returns-clause-page_full
returns-clause-page_full c = copies_full_seated

pub returns-clause-done : goal.returns-clause-done
returns-clause-done c = copies_seated
