-- The permutation of a vector, and the prefixes that begin it.
use Rattle.std.specs.Prelude.{ℕ, ℤ, ◌==◌, ◌&&◌, List, [], ◌∷◌, length, map, Bool, true, false, nat_le, slice_index}
use Rattle.std.specs.declared.cmp.Ordering.{Ordering}
use Rattle.std.specs.List.{range_with_len}
use Rattle.std.specs.Ordering.{nat_cmp, ordering_then}
use Rattle.mi_base.specs.declared.limits.TheConstants.{MAX_PIVOTS}
use Rattle.mi_base.specs.Prefixes.{all_below, are_different}
use Rattle.mi_base.specs.Sorting.{sorted}
use Rattle.mi_base.specs.Space.{Space}

-- at most 32 numbers, each below their count, none twice
abbrev pub is_permutation : List ℕ → Bool
is_permutation ps = nat_le (length ps) MAX_PIVOTS && (all_below (length ps) ps && are_different ps)

-- the second list begins with the first
abbrev pub begins : List ℕ → List ℕ → Bool
begins [] ys = true
begins (x ∷ xs) [] = false
begins (x ∷ xs) (y ∷ ys) = (x == y) && begins xs ys

-- the distances of a vector to the pivots, in the pivots' order
abbrev pub distances : Space → List ℤ → List ℕ
distances space v = map (λ p. space.metric.d v p) space.pivots

-- pivots by their distance, then number
abbrev pub pivot_cmp : List ℕ → ℕ → ℕ → Ordering
pivot_cmp dists i j = ordering_then (nat_cmp (slice_index dists i) (slice_index dists j)) (nat_cmp i j)

-- the pivots' numbers in ascending order of distance, then number
abbrev pub permutation_of : List ℕ → List ℕ
permutation_of dists = sorted (pivot_cmp dists) (range_with_len 0 (length dists))

-- the distance at the first of these numbers, or 0 where there is none
abbrev pub distance_at_first : List ℕ → List ℕ → ℕ
distance_at_first dists [] = 0
distance_at_first dists (p ∷ ps) = slice_index dists p

-- the distance to the nearest pivot, or 0 without pivots
abbrev pub key_distance : List ℕ → ℕ
key_distance dists = distance_at_first dists (permutation_of dists)
