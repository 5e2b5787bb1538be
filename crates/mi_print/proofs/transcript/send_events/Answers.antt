use Rattle.mi_print.specs.Render.{event_line}
use Rattle.mi_print.proofs.LoopLemmas.{sends_each_ended}
use Rattle.mi_print.proofs.transcript.send_events.Goals as goal

pub returns-in_err-send_event : goal.returns-in_err-send_event
returns-in_err-send_event g c =
    let whole = sends_each_ended event_line c.as_slice-event-items.result.now c.loop-event.event-index c.event-item.result _ c.from_residual.result
    c.loop-event-test.true c.event-item.is c.from_residual.ensures.1 c.loop-event.invariant.0 c.in_err-send_event.ensures in
    rw c.as_slice-event-items.ensures at whole
