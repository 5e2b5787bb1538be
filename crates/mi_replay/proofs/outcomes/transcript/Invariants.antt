use Rattle.std.proofs.Common.{◌≡◌, map}
use Rattle.mi_replay.specs.declared.seats.Seat.{Seat}
use Rattle.mi_replay.proofs.outcomes.transcript.Given as goal

abbrev pub invariant-loop-seat : goal.invariant-loop-seat
invariant-loop-seat l = l.replies ≡ map (λ (a : Seat). a.replies.items) l.yielded
