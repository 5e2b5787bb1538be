use Rattle.std.proofs.Common.{length, arith}
use Rattle.mi_base.specs.Space.{table_entry}
use Rattle.mi_table.specs.declared.faults.TableFault.TheVariants.{Diagonal}
use Rattle.mi_table.proofs.SearchLemmas.{one_more, one_first}
use Rattle.mi_table.proofs.TestLemmas.{other, not_other}
use Rattle.mi_table.proofs.checks.check_diagonal.Goals as goal

pub returns-then-entry-ne0 : goal.returns-then-entry-ne0
returns-then-entry-ne0 c =
    let rows = c.args.rows.now in
    let i = c.loop-i.i in
    one_first rows Diagonal (length rows) i (omega arith) c.loop-i.invariant (other (table_entry rows i i) 0 (λ h. omega (arith, c.if-entry-ne0.true)))

pub loop-i-preserved : goal.loop-i-preserved
loop-i-preserved c =
    let rows = c.args.rows.now in
    let i = c.loop-i.i in
    one_more rows Diagonal i c.loop-i.invariant (not_other (table_entry rows i i) 0 (omega arith))
