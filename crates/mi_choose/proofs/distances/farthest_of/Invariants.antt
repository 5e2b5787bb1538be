use Rattle.std.proofs.Common.{◌≡◌, ℕ, ◌<◌, ◌≤◌, get_or}
use Rattle.mi_choose.proofs.distances.farthest_of.Given as goal

-- no distance so far is greater than the kept one, which is the first of its size, or there was none above 0
abbrev pub invariant-loop-place : goal.invariant-loop-place
invariant-loop-place l = record {
  most : (k : ℕ) → k < l.place → get_or l.distances k 0 ≤ l.first.distance;
  before : (k : ℕ) → k < l.first.place → get_or l.distances k 0 < l.first.distance;
  there : 0 < l.first.distance → get_or l.distances l.first.place 0 ≡ l.first.distance;
  none : l.first.distance ≡ 0 → l.first.place ≡ 0;
  within : 0 < l.first.distance → l.first.place < l.place;
}
