use Rattle.std.proofs.Common.{length, arith}
use Rattle.std.proofs.lemmas.Result.{err_from_is_err_and}
use Rattle.mi_table.specs.Faults.{triangles_through}
use Rattle.mi_table.proofs.SearchLemmas.{each_more, each_here}
use Rattle.mi_table.proofs.checks.check_triangles_from.Goals as goal

pub returns-in_err-check_triangles_through : goal.returns-in_err-check_triangles_through
returns-in_err-check_triangles_through c =
    let rows = c.args.rows.now in
    let p = err_from_is_err_and c.from_residual.result c.from_residual.ensures.1 in
    rw (p.1, p.2) (each_here rows (triangles_through (length rows) c.args.i) (length rows) c.loop-j.j _ (omega arith) c.loop-j.invariant c.in_err-check_triangles_through.ensures)

pub loop-j-preserved : goal.loop-j-preserved
loop-j-preserved c =
    let rows = c.args.rows.now in
    each_more rows (triangles_through (length rows) c.args.i) c.loop-j.j c.loop-j.invariant c.in_ok-check_triangles_through.ensures
