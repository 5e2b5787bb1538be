use Rattle.std.proofs.Common.{length, arith}
use Rattle.std.proofs.lemmas.Result.{err_from_is_err_and}
use Rattle.mi_table.specs.Faults.{asymmetries_from}
use Rattle.mi_table.proofs.SearchLemmas.{each_more, each_here}
use Rattle.mi_table.proofs.checks.check_symmetry.Goals as goal

pub returns-in_err-check_symmetry_from : goal.returns-in_err-check_symmetry_from
returns-in_err-check_symmetry_from c =
    let rows = c.args.rows.now in
    let p = err_from_is_err_and c.from_residual.result c.from_residual.ensures.1 in
    rw (p.1, p.2) (each_here rows (asymmetries_from (length rows)) (length rows) c.loop-i.i _ (omega arith) c.loop-i.invariant c.in_err-check_symmetry_from.ensures)

pub loop-i-preserved : goal.loop-i-preserved
loop-i-preserved c =
    let rows = c.args.rows.now in
    each_more rows (asymmetries_from (length rows)) c.loop-i.i c.loop-i.invariant c.in_ok-check_symmetry_from.ensures
