use Rattle.mi_solo.specs.States.{view_in}
use Rattle.mi_replay.specs.Spending.{SeatSpends}
use Rattle.mi_replay.proofs.SeatBlocks.{OnItsWay, seat_left}
use Rattle.mi_replay.proofs.seats.Seat.operation.Given as goal

-- turns were made, and the operation goes on or stops
abbrev pub invariant-loop-alloc : goal.invariant-loop-alloc
invariant-loop-alloc g l = record {
  way : OnItsWay l.fn.actor l.fn.script l.fn.solo.state l.fn.self l.taken l.solo.state l.self;
  spends : SeatSpends l.fn.actor l.fn.script l.fn.solo.state l.fn.self l.fn.steps l.solo.state l.self l.steps;
}

-- less is left of the pages, or of the job
abbrev pub decreases-loop-alloc : goal.decreases-loop-alloc
decreases-loop-alloc g l = seat_left l.taken l.self (view_in l.solo.state l.fn.actor)
