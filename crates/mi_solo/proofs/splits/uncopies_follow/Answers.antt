use Rattle.mi_solo.proofs.CopyEvents.{can_uncopy, copy_there, last_is, uncopies_done, uncopies_down, uncopies_right}
use Rattle.mi_solo.proofs.splits.uncopies_follow.Goals as goal

pub returns-clause-down : goal.returns-clause-down
returns-clause-down c = uncopies_down

pub returns-clause-right : goal.returns-clause-right
returns-clause-right c = uncopies_right

pub returns-clause-done : goal.returns-clause-done
returns-clause-done c = uncopies_done

pub returns-clause-key : goal.returns-clause-key
returns-clause-key c = last_is

pub returns-clause-event : goal.returns-clause-event
returns-clause-event c = can_uncopy

pub returns-clause-there : goal.returns-clause-there
returns-clause-there c = copy_there
