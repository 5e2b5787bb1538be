use Rattle.mi_solo.proofs.CommitEvents.{inserts_crowded, inserts_down, inserts_full, inserts_page_full, inserts_right}
use Rattle.mi_solo.proofs.EnterEvents.{inserts_done}
use Rattle.mi_solo.proofs.pages.inserts_follow.Goals as goal

pub returns-clause-down : goal.returns-clause-down
returns-clause-down c = inserts_down

pub returns-clause-right : goal.returns-clause-right
returns-clause-right c = inserts_right

pub returns-clause-full : goal.returns-clause-full
returns-clause-full c = inserts_full

pub returns-clause-crowded : goal.returns-clause-crowded
returns-clause-crowded c = inserts_crowded

pub returns-clause-page_full : goal.returns-clause-page_full
returns-clause-page_full c = inserts_page_full

pub returns-clause-done : goal.returns-clause-done
returns-clause-done c = inserts_done
