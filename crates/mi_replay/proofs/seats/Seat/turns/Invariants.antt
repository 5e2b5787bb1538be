use Rattle.std.proofs.Common.{◌≤◌, ◌-◌}
use Rattle.mi_replay.specs.Spending.{SeatSpends}
use Rattle.mi_replay.proofs.SeatBlocks.{Counting}
use Rattle.mi_replay.proofs.seats.Seat.turns.Given as goal

-- so many turns of the block were made
abbrev pub invariant-loop-left : goal.invariant-loop-left
invariant-loop-left g l = record {
  few : l.left ≤ l.fn.count;
  counting : Counting l.fn.actor l.fn.script l.fn.solo.state l.fn.self (l.fn.count - l.left) l.solo.state l.self;
  spends : SeatSpends l.fn.actor l.fn.script l.fn.solo.state l.fn.self l.fn.steps l.solo.state l.self l.steps;
}

abbrev pub decreases-loop-left : goal.decreases-loop-left
decreases-loop-left g l = l.left
