use Rattle.std.proofs.Common.{length, ◌-◌, ◌≤◌, take, Ok}
use Rattle.mi_outside.specs.Outside.{Sends}
use Rattle.mi_outside.proofs.writing.write_all.Given as goal

-- the first bytes went out whole
abbrev pub invariant-loop-sent : goal.invariant-loop-sent
invariant-loop-sent g l = record {
  within : l.sent ≤ length l.piece;
  sends : Sends (g.S.Sink.state l.initial.out) (g.S.Sink.state l.out) (take l.sent l.piece) (Ok tt);
}

abbrev pub decreases-loop-sent : goal.decreases-loop-sent
decreases-loop-sent g l = length l.piece - l.sent
