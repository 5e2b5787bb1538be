use Rattle.std.proofs.Common.{◌≡◌, max}
use Rattle.mi_base.specs.Space.{greatest_difference}
use Rattle.mi_metric.proofs.max.greatest_difference.Given as goal

-- the greater of what was met and what is left is the whole's
abbrev pub invariant-loop-x : goal.invariant-loop-x
invariant-loop-x l = max l.greatest (greatest_difference l.x-iterator.a.rest.now l.x-iterator.b.rest.now) ≡ greatest_difference l.a l.b
