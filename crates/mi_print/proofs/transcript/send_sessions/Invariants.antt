use Rattle.std.proofs.Common.{◌≡◌, drop}
use Rattle.mi_print.specs.Render.{session_lines}
use Rattle.mi_print.proofs.LoopLemmas.{Sent}
use Rattle.mi_print.proofs.transcript.send_sessions.Given as goal

-- with the sessions that are left, what was sent is all
abbrev pub invariant-loop-number : goal.invariant-loop-number
invariant-loop-number g l =
    Sent (g.S.Sink.state l.fn.out) (g.S.Sink.state l.out) (session_lines l.number (drop l.number l.replies-items)) (session_lines 0 l.replies-items)
    × (l.replies-items ≡ l.initial.replies-items)
