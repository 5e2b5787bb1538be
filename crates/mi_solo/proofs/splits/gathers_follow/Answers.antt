use Rattle.mi_solo.proofs.GatherEvents.{can_gather, can_start, gathers_down, gathers_memory, gathers_on, gathers_right}
use Rattle.mi_solo.proofs.splits.gathers_follow.Goals as goal

pub returns-clause-down : goal.returns-clause-down
returns-clause-down c = gathers_down

pub returns-clause-right : goal.returns-clause-right
returns-clause-right c = gathers_right

pub returns-clause-memory : goal.returns-clause-memory
returns-clause-memory c = gathers_memory

pub returns-clause-read : goal.returns-clause-read
returns-clause-read c = gathers_on

pub returns-clause-starts : goal.returns-clause-starts
returns-clause-starts c = can_start

pub returns-clause-event : goal.returns-clause-event
returns-clause-event c = can_gather
