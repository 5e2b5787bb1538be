use Rattle.std.proofs.Common.{◌≡◌, ◌+◌, ◌≤◌, map, length, take}
use Rattle.mi_perm.proofs.measuring.Pivots.measure.Given as goal

-- the distances so far, one step each
abbrev pub invariant-loop-pivot : goal.invariant-loop-pivot
invariant-loop-pivot g l = record {
  measured : l.dists.items ≡ map (λ p. (g.M.Metric.space l.metric).d l.v p) (take l.pivot-index l.pivot-items);
  steps : l.steps ≡ l.initial.steps + l.pivot-index;
  few : length l.pivot-items ≤ 32;
}
