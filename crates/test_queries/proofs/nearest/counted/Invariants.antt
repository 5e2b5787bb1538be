use Rattle.std.proofs.Common.{◌≡◌}
use Rattle.mi_base.specs.Permutations.{distances}
use Rattle.test_queries.proofs.nearest.counted.Given as goal

abbrev pub invariant-loop-number : goal.invariant-loop-number
invariant-loop-number g l = l.work.dists ≡ distances (record { metric = g.M.Metric.space l.metric; pivots = l.pivots }) l.query
