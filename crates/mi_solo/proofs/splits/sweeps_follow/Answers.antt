use Rattle.mi_solo.proofs.SweepEvents.{can_sweep, sweeps_down, sweeps_on, sweeps_right}
use Rattle.mi_solo.proofs.splits.sweeps_follow.Goals as goal

pub returns-clause-down : goal.returns-clause-down
returns-clause-down c = sweeps_down

pub returns-clause-right : goal.returns-clause-right
returns-clause-right c = sweeps_right

pub returns-clause-read : goal.returns-clause-read
returns-clause-read c = sweeps_on

pub returns-clause-event : goal.returns-clause-event
returns-clause-event c = can_sweep
