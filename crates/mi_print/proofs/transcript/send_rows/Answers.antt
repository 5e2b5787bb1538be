use Rattle.mi_print.specs.Render.{row_line}
use Rattle.mi_print.proofs.LoopLemmas.{sends_each_ended}
use Rattle.mi_print.proofs.transcript.send_rows.Goals as goal

pub returns-in_err-send_row : goal.returns-in_err-send_row
returns-in_err-send_row g c =
    let whole = sends_each_ended row_line c.as_slice-row-items.result.now c.loop-row.row-index c.row-item.result _ c.from_residual.result
    c.loop-row-test.true c.row-item.is c.from_residual.ensures.1 c.loop-row.invariant.0 c.in_err-send_row.ensures in
    rw c.as_slice-row-items.ensures at whole
