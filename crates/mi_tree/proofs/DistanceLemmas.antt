-- How far vectors that fit are from the pivots at most.
use Rattle.std.proofs.Common.{ℕ, ℤ, suc, zero, ◌^◌, ◌<◌, ◌≤◌, List, [], ◌∷◌, map, IsTrue, arith}
use Rattle.std.specs.Prelude.{slice_index}
use Rattle.std.specs.List.{AllByRecursion}
use Rattle.mi_base.specs.Permutations.{distance_at_first, distances, key_distance, permutation_of}
use Rattle.mi_base.specs.Space.{IsMetric, MetricSpace, Space}

-- a bound of all distances bounds the one at a place
bounded_at : (m : MetricSpace) → IsMetric m → (v : List ℤ) → IsTrue (m.fits v) → (ps : List (List ℤ)) → AllByRecursion (λ p. IsTrue (m.fits p)) ps → (j : ℕ) → slice_index (map (m.d v) ps) j ≤ 128000000
bounded_at m is v fits [] all j = omega arith
bounded_at m is v fits (p ∷ ps) all zero = is.bound v p fits all.0
bounded_at m is v fits (p ∷ ps) all (suc j) = bounded_at m is v fits ps all.1 j

first_bounded : (most : ℕ) (dists perm : List ℕ) → ((j : ℕ) → slice_index dists j ≤ most) → distance_at_first dists perm ≤ most
first_bounded most dists [] h = omega arith
first_bounded most dists (p ∷ ps) h = h p

-- a key has place for the key distance of a vector that fits
pub key_distance_small : (space : Space) → IsMetric space.metric → AllByRecursion (λ p. IsTrue (space.metric.fits p)) space.pivots → (v : List ℤ) → IsTrue (space.metric.fits v)
    → key_distance (distances space v) < 2 ^ 27
key_distance_small space metric pivots v fits =
    let dists = distances space v in
    let first = first_bounded 128000000 dists (permutation_of dists) (bounded_at space.metric metric v fits space.pivots pivots) in
    omega arith
