use Rattle.mi_hall.proofs.CommitPlaces.{inserts_down_seated, inserts_right_seated, inserts_full_seated, inserts_crowded_seated, inserts_page_full_seated, inserts_seated}
use Rattle.mi_hall.proofs.commits.inserts_follow.Goals as goal

pub returns-clause-down : goal.returns-clause-down
returns-clause-down c = inserts_down_seated

pub returns-clause-right : goal.returns-clause-right
returns-clause-right c = inserts_right_seated

pub returns-clause-full : goal.returns-clause-full
returns-clause-full c = inserts_full_seated

pub returns-clause-crowded : goal.returns-clause-crowded
returns-clause-crowded c = inserts_crowded_seated

pub returns-clause-page_full : goal.returns-clause-page_full
returns-clause-page_full c = inserts_page_full_seated

pub returns-clause-done : goal.returns-clause-done
returns-clause-done c = inserts_seated
