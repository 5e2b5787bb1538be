-- What a distance from the nearest is.
use Rattle.std.specs.Prelude.{◌≡◌, ℕ, ℤ, ◌<◌, ◌≤◌, List, [], length, IsTrue, slice_index_or}
use Rattle.std.specs.List.{All, AllByRecursion}
use Rattle.mi_base.specs.Space.{IsMetric, MetricSpace}
use Rattle.mi_choose.specs.Covering.{from_nearest}

-- one of the members is so far from the vector, and none is nearer
pub record IsFromNearest (m : MetricSpace) (members : List (List ℤ)) (v : List ℤ) (distance : ℕ) : Type 0 where
  pub there : (i : ℕ) × (i < length members) × (m.d v (slice_index_or members i []) ≡ distance)
  pub none_nearer : All (λ c. distance ≤ m.d v c) members

-- of at least one member, all of which fit, the nearest is one
abbrev pub NearestIsMember : Type 0
NearestIsMember = (m : MetricSpace) → IsMetric m → (members : List (List ℤ)) (v : List ℤ) → AllByRecursion (λ c. IsTrue (m.fits c)) members → IsTrue (m.fits v) → 1 ≤ length members
    → IsFromNearest m members v (from_nearest m members v)
