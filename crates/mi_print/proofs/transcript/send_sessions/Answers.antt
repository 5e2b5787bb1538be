use Rattle.std.proofs.Common.{◌+◌, ◌++◌, ◌∙◌, ap, sym, drop, append_assoc, refl}
use Rattle.mi_outside.proofs.SendingLemmas.{sends_ended, sends_then}
use Rattle.mi_print.specs.Render.{session_lines}
use Rattle.mi_print.proofs.LoopLemmas.{session_text, session_lines-drop}
use Rattle.mi_print.proofs.transcript.send_sessions.Goals as goal

pub returns-in_err-send_session : goal.returns-in_err-send_session
returns-in_err-send_session g c =
    let xs = c.as_slice-replies-items.result.now in
    let n = c.loop-number.number in
    let x = c.replies-item.result in
    let sent = c.loop-number.invariant.0 in
    let text = session_text n x in
    let rest = session_lines (n + 1) (drop (n + 1) xs) in
    sends_ended _ c.from_residual.result (sent.done ++ text) rest _ c.from_residual.ensures.1
    (ap (session_lines 0) (sym c.as_slice-replies-items.ensures) ∙ sym sent.joined ∙ ap (λ y. sent.done ++ y) (session_lines-drop n xs x c.loop-number-test.true c.replies-item.is) ∙ sym (append_assoc sent.done text rest))
    (sends_then sent.done text sent.sends c.in_err-send_session.ensures)

pub loop-number-preserved : goal.loop-number-preserved
loop-number-preserved g c =
    let xs = c.as_slice-replies-items.result.now in
    let n = c.loop-number.number in
    let x = c.replies-item.result in
    let sent = c.loop-number.invariant.0 in
    let text = session_text n x in
    let rest = session_lines (n + 1) (drop (n + 1) xs) in (
      record {
        done = sent.done ++ text;
        joined = append_assoc sent.done text rest ∙ ap (λ y. sent.done ++ y) (sym (session_lines-drop n xs x c.loop-number-test.true c.replies-item.is)) ∙ sent.joined;
        sends = sends_then sent.done text sent.sends c.in_ok-send_session.ensures;
      },
      refl,
    )
