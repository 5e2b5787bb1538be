use Rattle.std.proofs.Common.{◌++◌, ◌∙◌, ap, sym, append_assoc}
use Rattle.std.specs.Prelude.{[], ◌∷◌, codes}
use Rattle.mi_outside.proofs.SendingLemmas.{sends_ended, sends_then}
use Rattle.mi_print.specs.Render.{session_lines, history_lines, cell_lines, number_line}
use Rattle.mi_print.proofs.transcript.render.Goals as goal

pub returns-in_err-send_history : goal.returns-in_err-send_history
returns-in_err-send_history g c =
    let o = c.args.outcome.now in
    let a = session_lines 0 o.replies in
    let b = history_lines o.log in
    let d = cell_lines o.cells in
    let e = number_line (codes "entries") (o.entries ∷ []) ++ number_line (codes "pages") (o.allotted ∷ o.limit ∷ []) in
    sends_ended _ c.from_residual-in_err-send_history.result (a ++ b) (d ++ e) _ c.from_residual-in_err-send_history.ensures.1
    (sym (append_assoc a b (d ++ e)))
    (sends_then a b c.in_ok-send_sessions.ensures c.in_err-send_history.ensures)

pub returns-in_err-send_cells : goal.returns-in_err-send_cells
returns-in_err-send_cells g c =
    let o = c.args.outcome.now in
    let a = session_lines 0 o.replies in
    let b = history_lines o.log in
    let d = cell_lines o.cells in
    let e = number_line (codes "entries") (o.entries ∷ []) ++ number_line (codes "pages") (o.allotted ∷ o.limit ∷ []) in
    sends_ended _ c.from_residual-in_err-send_cells.result (a ++ (b ++ d)) e _ c.from_residual-in_err-send_cells.ensures.1
    (sym (append_assoc a (b ++ d) e ∙ ap (λ y. a ++ y) (append_assoc b d e)))
    (sends_then a (b ++ d) c.in_ok-send_sessions.ensures (sends_then b d c.in_ok-send_history.ensures c.in_err-send_cells.ensures))

pub returns : goal.returns
returns g c =
    let o = c.args.outcome.now in
    let a = session_lines 0 o.replies in
    let b = history_lines o.log in
    let d = cell_lines o.cells in
    let e = number_line (codes "entries") (o.entries ∷ []) ++ number_line (codes "pages") (o.allotted ∷ o.limit ∷ []) in
    sends_then a (b ++ (d ++ e)) c.in_ok-send_sessions.ensures
    (sends_then b (d ++ e) c.in_ok-send_history.ensures (sends_then d e c.in_ok-send_cells.ensures c.send_totals.ensures))
