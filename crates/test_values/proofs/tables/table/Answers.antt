use Rattle.std.proofs.Common.{length-append, arith}
use Rattle.mi_base.specs.Configuration.{IsTableRow}
use Rattle.mi_table.proofs.ListLemmas.{all_more}
use Rattle.test_values.proofs.tables.table.Goals as goal

pub loop-values-preserved : goal.loop-values-preserved
loop-values-preserved c =
    let pushed = c.in_ok-push.ensures.ok in
    record {
      many = rw (pushed, length-append) (omega arith);
      each = rw pushed (all_more IsTableRow c.loop-values.table c.in-Some.row c.loop-values.invariant.each (rw c.in-Some.is at c.in_ok-row.ensures));
    }
