use Rattle.std.proofs.Common.{◌≡◌, ◌+◌}
use Rattle.mi_base.specs.Space.{sum_of_differences}
use Rattle.mi_metric.proofs.l1.sum_of_differences.Given as goal

-- the sum so far and that of the rest are the whole
abbrev pub invariant-loop-x : goal.invariant-loop-x
invariant-loop-x l = l.sum + sum_of_differences l.x-iterator.a.rest.now l.x-iterator.b.rest.now ≡ sum_of_differences l.a l.b
