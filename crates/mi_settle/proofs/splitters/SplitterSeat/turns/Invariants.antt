use Rattle.mi_settle.proofs.SplitterTurns.{Counting}
use Rattle.mi_settle.proofs.splitters.SplitterSeat.turns.Given as goal

-- so many turns were made
abbrev pub invariant-loop : goal.invariant-loop
invariant-loop l = record { turns : Counting l.fn.actor l.fn.solo.state l.fn.self l.counter l.solo.state l.self }
