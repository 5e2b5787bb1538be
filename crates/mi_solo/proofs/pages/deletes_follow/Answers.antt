use Rattle.mi_solo.proofs.CommitEvents.{deletes_down, deletes_full, deletes_right}
use Rattle.mi_solo.proofs.EnterEvents.{deletes_done}
use Rattle.mi_solo.proofs.pages.deletes_follow.Goals as goal

pub returns-clause-down : goal.returns-clause-down
returns-clause-down c = deletes_down

pub returns-clause-right : goal.returns-clause-right
returns-clause-right c = deletes_right

pub returns-clause-full : goal.returns-clause-full
returns-clause-full c = λ page op id node. deletes_full page op id node

pub returns-clause-done : goal.returns-clause-done
returns-clause-done c = deletes_done
