use Rattle.std.specs.Prelude.{take}
use Rattle.mi_replay.specs.Spending.{HasSpent}
use Rattle.mi_replay.specs.Tables.{Ran}
use Rattle.mi_replay.proofs.replaying.scheduled.Given as goal

abbrev pub invariant-loop-place : goal.invariant-loop-place
invariant-loop-place g l = record {
  ran : Ran l.settings l.scripts (take l.place l.schedule) l.table.solo.state l.table.seats.items l.table.splitter;
  spent : HasSpent l.scripts l.fn.steps l.steps l.table;
}
