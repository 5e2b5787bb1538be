use Rattle.std.proofs.Common.{ap, sym, ◌++◌}
use Rattle.std.specs.Prelude.{[], ◌∷◌, codes}
use Rattle.mi_print.specs.Render.{number_line, row_lines}
use Rattle.mi_outside.proofs.SendingLemmas.{sends_ended, sends_then_is}
use Rattle.mi_print.proofs.transcript.send_nearest.Goals as goal

pub returns-in_err-send_numbers : goal.returns-in_err-send_numbers
returns-in_err-send_numbers g c =
    sends_ended _ c.from_residual.result
    (number_line (codes "nearest") (c.args.at.updates ∷ c.args.at.splits ∷ c.len.result ∷ c.args.cells ∷ []))
    (row_lines c.args.rows.now)
    _ c.from_residual.ensures.1
    (ap (λ n. number_line (codes "nearest") (c.args.at.updates ∷ c.args.at.splits ∷ n ∷ c.args.cells ∷ []) ++ row_lines c.args.rows.now) (sym c.len.ensures))
    c.in_err-send_numbers.ensures

pub returns : goal.returns
returns g c =
    sends_then_is
    (number_line (codes "nearest") (c.args.at.updates ∷ c.args.at.splits ∷ c.len.result ∷ c.args.cells ∷ []))
    (row_lines c.args.rows.now)
    _
    (ap (λ n. number_line (codes "nearest") (c.args.at.updates ∷ c.args.at.splits ∷ n ∷ c.args.cells ∷ []) ++ row_lines c.args.rows.now) (sym c.len.ensures))
    c.in_ok-send_numbers.ensures c.send_rows.ensures
