use Rattle.std.proofs.Common.{IsTrue, take}
use Rattle.std.specs.List.{All}
use Rattle.mi_base.specs.Prefixes.{all_below}
use Rattle.test_queries.proofs.nearest.all_are_below.Given as goal

abbrev pub invariant-loop-place : goal.invariant-loop-place
invariant-loop-place l = All (λ leaf. IsTrue (all_below l.pivots leaf.prefix)) (take l.place l.catalog.leaves)
