use Rattle.std.proofs.Common.{◌≤◌, length-append, arith}
use Rattle.mi_table.proofs.ListLemmas.{all_more}
use Rattle.test_values.proofs.tables.row.Goals as goal

pub loop-value-preserved : goal.loop-value-preserved
loop-value-preserved c =
    let pushed = c.in_ok-push.ensures.ok in
    record {
      many = rw (pushed, length-append) (omega arith);
      small = rw pushed (all_more (λ value. value ≤ 128000000) c.loop-value.row _ c.loop-value.invariant.small c.if-value-gt128000000.false);
    }
