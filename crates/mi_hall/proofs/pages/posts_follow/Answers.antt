use Rattle.mi_hall.proofs.PagePlaces.{posts_down_seated, posts_right_seated, posts_full_seated, posts_done_seated}
use Rattle.mi_hall.proofs.pages.posts_follow.Goals as goal

pub returns-clause-down : goal.returns-clause-down
returns-clause-down c = posts_down_seated

pub returns-clause-right : goal.returns-clause-right
returns-clause-right c = posts_right_seated

pub returns-clause-page_full : goal.returns-clause-page_full
returns-clause-page_full c = posts_full_seated

pub returns-clause-done : goal.returns-clause-done
returns-clause-done c = posts_done_seated
