use Rattle.std.proofs.Common.{length, sym, ◌∙◌, arith}
use Rattle.mi_base.specs.Space.{table_entry}
use Rattle.mi_table.specs.declared.faults.TableFault.TheVariants.{Asymmetric}
use Rattle.mi_table.proofs.SearchLemmas.{one_more, one_first}
use Rattle.mi_table.proofs.TestLemmas.{asymmetric, not_rising, same_back}
use Rattle.mi_table.proofs.checks.check_symmetry_from.Goals as goal
use Rattle.mi_table.proofs.checks.check_symmetry_from.Goals.{else-i-j-via-then-i-j+else-entry, else-i-j-via-else-i-j}

pub returns-then-entry : goal.returns-then-entry
returns-then-entry c =
    let rows = c.args.rows.now in
    let i = c.args.i in
    let j = c.loop-j.j in
    one_first rows (Asymmetric i) (length rows) j (omega arith) c.loop-j.invariant
    (asymmetric i j (table_entry rows i j) (table_entry rows j i) (omega arith) (λ h. c.if-entry.true (c.entry.ensures.entry ∙ h ∙ sym c.entry-then-i-j.ensures.entry)))

pub loop-j-preserved : goal.loop-j-preserved
loop-j-preserved c =
    let rows = c.args.rows.now in
    let i = c.args.i in
    let j = c.loop-j.j in
    elim c.else-i-j.branch [
      | else-i-j-via-then-i-j+else-entry w ↦ one_more rows (Asymmetric i) j c.loop-j.invariant (same_back i j (table_entry rows i j) (table_entry rows j i) (omega arith))
      | else-i-j-via-else-i-j w ↦ one_more rows (Asymmetric i) j c.loop-j.invariant (not_rising i j (table_entry rows i j) (table_entry rows j i) (omega arith))
    ]
