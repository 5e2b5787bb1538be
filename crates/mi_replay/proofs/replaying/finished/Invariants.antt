use Rattle.mi_replay.specs.Rounds.{rounds_left}
use Rattle.mi_replay.specs.Spending.{HasSpent}
use Rattle.mi_replay.proofs.TableOpening.{RoundsMade}
use Rattle.mi_replay.proofs.replaying.finished.Given as goal

abbrev pub invariant-loop-alloc : goal.invariant-loop-alloc
invariant-loop-alloc g l = record {
  made : RoundsMade l.settings l.scripts l.schedule l.table.solo.state l.table.seats.items l.table.splitter;
  spent : HasSpent l.scripts l.fn.steps l.steps l.table;
}

abbrev pub decreases-loop-alloc : goal.decreases-loop-alloc
decreases-loop-alloc g l = rounds_left l.scripts l.table.solo.state l.table.seats.items l.table.splitter
