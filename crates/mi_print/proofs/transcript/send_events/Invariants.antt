use Rattle.std.proofs.Common.{◌≡◌, Ok, take}
use Rattle.std.specs.List.{flat_map}
use Rattle.mi_outside.specs.Outside.{Sends}
use Rattle.mi_print.specs.Render.{event_line}
use Rattle.mi_print.proofs.transcript.send_events.Given as goal

-- the lines of the items so far were sent
abbrev pub invariant-loop-event : goal.invariant-loop-event
invariant-loop-event g l =
    Sends (g.S.Sink.state l.fn.out) (g.S.Sink.state l.out) (flat_map event_line (take l.event-index l.event-items)) (Ok tt)
    × (l.event-items ≡ l.initial.event-items)
