use Rattle.std.proofs.Common.{◌≡◌, Ok, take}
use Rattle.std.specs.List.{flat_map}
use Rattle.mi_outside.specs.Outside.{Sends}
use Rattle.mi_print.specs.Render.{reply_lines}
use Rattle.mi_print.proofs.transcript.send_replies.Given as goal

-- the lines of the items so far were sent
abbrev pub invariant-loop-reply : goal.invariant-loop-reply
invariant-loop-reply g l =
    Sends (g.S.Sink.state l.fn.out) (g.S.Sink.state l.out) (flat_map reply_lines (take l.reply-index l.reply-items)) (Ok tt)
    × (l.reply-items ≡ l.initial.reply-items)
