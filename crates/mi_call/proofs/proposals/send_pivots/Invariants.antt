use Rattle.std.proofs.Common.{◌≡◌, [], Ok, take, get_or}
use Rattle.std.specs.List.{flat_map}
use Rattle.mi_outside.specs.Outside.{Sends}
use Rattle.mi_call.specs.Choosing.{pivot_line}
use Rattle.mi_call.proofs.proposals.send_pivots.Given as goal

-- the lines of the objects so far were sent
abbrev pub invariant-loop-place : goal.invariant-loop-place
invariant-loop-place g l =
    Sends (g.S.Sink.state l.fn.out) (g.S.Sink.state l.out) (flat_map (λ place. pivot_line (get_or l.objects place [])) (take l.place-index l.place-items)) (Ok tt)
    × (l.place-items ≡ l.initial.place-items)
