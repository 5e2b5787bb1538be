use Rattle.std.proofs.Common.{length, arith}
use Rattle.mi_base.specs.Space.{table_entry}
use Rattle.mi_table.specs.declared.faults.TableFault.TheVariants.{Zero}
use Rattle.mi_table.proofs.SearchLemmas.{one_more, one_first}
use Rattle.mi_table.proofs.TestLemmas.{zero_apart, zero_at_home, not_zero}
use Rattle.mi_table.proofs.checks.check_zeros_from.Goals as goal
use Rattle.mi_table.proofs.checks.check_zeros_from.Goals.{else-i-j-via-then-i-j+else-entry-eq0, else-i-j-via-else-i-j}

pub returns-then-entry-eq0 : goal.returns-then-entry-eq0
returns-then-entry-eq0 c =
    let rows = c.args.rows.now in
    let i = c.args.i in
    let j = c.loop-j.j in
    one_first rows (Zero i) (length rows) j (omega arith) c.loop-j.invariant (zero_apart i j (table_entry rows i j) c.if-i-j.true (omega arith))

pub loop-j-preserved : goal.loop-j-preserved
loop-j-preserved c =
    let rows = c.args.rows.now in
    let i = c.args.i in
    let j = c.loop-j.j in
    elim c.else-i-j.branch [
      | else-i-j-via-then-i-j+else-entry-eq0 w ↦ one_more rows (Zero i) j c.loop-j.invariant (not_zero i j (table_entry rows i j) (rw w.entry.ensures.entry at w.if-entry-eq0.false))
      | else-i-j-via-else-i-j w ↦ one_more rows (Zero i) j c.loop-j.invariant (zero_at_home i j (table_entry rows i j) w.if-i-j.false)
    ]
