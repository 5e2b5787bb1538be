use Rattle.std.proofs.Common.{◌≡◌, ℕ, [], ◌+◌, ◌<◌, ◌≤◌, length, get_or, min}
use Rattle.mi_choose.proofs.distances.add_member.Given as goal

-- the objects so far may be nearer, and the others are as they were
abbrev pub invariant-loop-place : goal.invariant-loop-place
invariant-loop-place g l = record {
  same : length l.distances ≡ length l.fn.distances;
  nearer : (k : ℕ) → k < l.place → get_or l.distances k 0 ≡ min ((g.M.Metric.space l.metric).d (get_or l.object-items k []) l.member) (get_or l.fn.distances k 0);
  others : (k : ℕ) → l.place ≤ k → get_or l.distances k 0 ≡ get_or l.fn.distances k 0;
  steps : l.steps ≡ l.initial.steps + l.place;
}
