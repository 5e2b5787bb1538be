use Rattle.mi_solo.proofs.CopyEvents.{can_copy, copies_done, copies_down, copies_full, copies_right, copy_absent, next_is}
use Rattle.mi_solo.proofs.splits.copies_follow.Goals as goal

pub returns-clause-down : goal.returns-clause-down
returns-clause-down c = copies_down

pub returns-clause-right : goal.returns-clause-right
returns-clause-right c = copies_right

pub returns-clause-page_full : goal.returns-clause-page_full
returns-clause-page_full c = copies_full

pub returns-clause-done : goal.returns-clause-done
returns-clause-done c = copies_done

pub returns-clause-key : goal.returns-clause-key
returns-clause-key c = next_is

pub returns-clause-event : goal.returns-clause-event
returns-clause-event c = can_copy

pub returns-clause-absent : goal.returns-clause-absent
returns-clause-absent c = copy_absent
