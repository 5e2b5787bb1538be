use Rattle.std.proofs.Common.{◌++◌, refl, sym, append_assoc}
use Rattle.mi_outside.proofs.SendingLemmas.{sends_ended, sends_then}
use Rattle.mi_print.specs.Summary.{log_figures, page_figures, query_figures}
use Rattle.mi_print.proofs.figures.summary.Goals as goal

pub returns-in_err-send_log_figures : goal.returns-in_err-send_log_figures
returns-in_err-send_log_figures g c =
    let o = c.args.outcome.now in
    let a = log_figures c.args.seed o in
    let b = page_figures o ++ query_figures o.replies in
    sends_ended _ c.from_residual.result a b (a ++ b) c.from_residual.ensures.1 refl c.in_err-send_log_figures.ensures

pub returns-in_err-send_totals : goal.returns-in_err-send_totals
returns-in_err-send_totals g c =
    let o = c.args.outcome.now in
    let a = log_figures c.args.seed o in
    let b = page_figures o in
    let d = query_figures o.replies in
    sends_ended _ c.from_residual-in_err-send_totals.result (a ++ b) d _ c.from_residual-in_err-send_totals.ensures.1
    (sym (append_assoc a b d))
    (sends_then a b c.in_ok-send_log_figures.ensures c.in_err-send_totals.ensures)

pub returns : goal.returns
returns g c =
    let o = c.args.outcome.now in
    let a = log_figures c.args.seed o in
    let b = page_figures o in
    let d = query_figures o.replies in
    sends_then a (b ++ d) c.in_ok-send_log_figures.ensures (sends_then b d c.in_ok-send_totals.ensures c.send_query_figures.ensures)
