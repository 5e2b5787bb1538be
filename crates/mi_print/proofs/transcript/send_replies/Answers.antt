use Rattle.mi_print.specs.Render.{reply_lines}
use Rattle.mi_print.proofs.LoopLemmas.{sends_each_ended}
use Rattle.mi_print.proofs.transcript.send_replies.Goals as goal

pub returns-in_err-send_reply : goal.returns-in_err-send_reply
returns-in_err-send_reply g c =
    let whole = sends_each_ended reply_lines c.as_slice-reply-items.result.now c.loop-reply.reply-index c.reply-item.result _ c.from_residual.result
    c.loop-reply-test.true c.reply-item.is c.from_residual.ensures.1 c.loop-reply.invariant.0 c.in_err-send_reply.ensures in
    rw c.as_slice-reply-items.ensures at whole
