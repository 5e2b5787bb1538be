use Rattle.std.proofs.Common.{◌+◌, length, arith}
use Rattle.mi_base.specs.Space.{table_entry}
use Rattle.mi_table.specs.declared.faults.TableFault.TheVariants.{Triangle}
use Rattle.mi_table.proofs.SearchLemmas.{one_more, one_first}
use Rattle.mi_table.proofs.TestLemmas.{shorter, not_shorter}
use Rattle.mi_table.proofs.checks.check_triangles_through.Goals as goal

pub returns-then-entry-step : goal.returns-then-entry-step
returns-then-entry-step c =
    let rows = c.args.rows.now in
    let i = c.args.i in
    let j = c.args.j in
    let k = c.loop-k.k in
    one_first rows (Triangle i j) (length rows) k (omega arith) c.loop-k.invariant (shorter (table_entry rows i j + table_entry rows j k) (table_entry rows i k) (omega arith))

pub loop-k-preserved : goal.loop-k-preserved
loop-k-preserved c =
    let rows = c.args.rows.now in
    let i = c.args.i in
    let j = c.args.j in
    let k = c.loop-k.k in
    one_more rows (Triangle i j) k c.loop-k.invariant (not_shorter (table_entry rows i j + table_entry rows j k) (table_entry rows i k) (omega arith))
