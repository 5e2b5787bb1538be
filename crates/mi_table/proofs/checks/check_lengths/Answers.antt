use Rattle.std.proofs.Common.{◌≡◌, [], length, get_or, refl, arith}
use Rattle.std.proofs.lemmas.Grind.{common_steps}
use Rattle.mi_table.specs.declared.faults.TableFault.TheVariants.{NotSquare}
use Rattle.mi_table.proofs.SearchLemmas.{one_more, one_first}
use Rattle.mi_table.proofs.TestLemmas.{other, not_other}
use Rattle.mi_table.proofs.checks.check_lengths.Goals as goal

pub returns-then-len : goal.returns-then-len
returns-then-len c =
    let rows = c.args.rows.now in
    let row = c.loop-row.row in
    let is : c.index-as_slice-row.result ≡ get_or rows row [] = grind (arith, common_steps) in
    one_first rows NotSquare (length rows) row (omega arith) c.loop-row.invariant
    (other (length (get_or rows row [])) (length rows) (λ h. c.if-len.true (rw (c.len.ensures, c.len-in-loop-row.ensures, is) h)))

pub loop-row-preserved : goal.loop-row-preserved
loop-row-preserved c =
    let rows = c.args.rows.now in
    let row = c.loop-row.row in
    let is : c.index-as_slice-row.result ≡ get_or rows row [] = grind (arith, common_steps) in
    let len : c.len.result ≡ length (get_or rows row []) = rw c.len.ensures (rw is refl) in
    one_more rows NotSquare row c.loop-row.invariant (not_other (length (get_or rows row [])) (length rows) (omega arith))
