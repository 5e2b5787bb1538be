use Rattle.std.proofs.Common.{◌≡◌, ◌+◌, ◌*◌, ℕ, nat_le, length, take, ◌||◌}
use Rattle.std.specs.Prelude.{slice_index}
use Rattle.std.specs.List.{list_all, range_with_len}
use Rattle.mi_base.specs.Prefixes.{has}
use Rattle.mi_rules.proofs.bounds.place_bound.Given as goal

-- the bound for the pivots so far
abbrev pub invariant-loop-pivot : goal.invariant-loop-pivot
invariant-loop-pivot l = record {
  items : l.nearer-items ≡ l.query.items;
  bound : (r : ℕ) → list_all (λ j. has j l.earlier || nat_le l.distance (slice_index l.query.items j + 2 * r)) (take l.pivot (range_with_len 0 (length l.query.items))) ≡ nat_le l.bound r;
}
