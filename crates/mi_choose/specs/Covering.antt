-- How near a list of vectors is to each object.
use Rattle.std.specs.Prelude.{ℕ, ℤ, List, [], ◌∷◌, map, min, max}
use Rattle.mi_base.specs.declared.limits.TheConstants.{MAX_DISTANCE}
use Rattle.mi_base.specs.Space.{MetricSpace}

-- a vector's distance from the nearest of these; from none it is as far as two vectors can be
abbrev pub from_nearest : MetricSpace → List (List ℤ) → List ℤ → ℕ
from_nearest m [] v = MAX_DISTANCE
from_nearest m (c ∷ cs) v = min (m.d v c) (from_nearest m cs v)

-- the greatest of these numbers, 0 without any
abbrev pub greatest : List ℕ → ℕ
greatest [] = 0
greatest (n ∷ ns) = max n (greatest ns)

-- how far the members leave the objects: the greatest distance of an object from its nearest member, 0 without objects
abbrev pub cover_of : MetricSpace → List (List ℤ) → List (List ℤ) → ℕ
cover_of m objects members = greatest (map (from_nearest m members) objects)

-- the least distance of two of these; where there are not two it is as far as two vectors can be
abbrev pub least_distance : MetricSpace → List (List ℤ) → ℕ
least_distance m [] = MAX_DISTANCE
least_distance m (v ∷ vs) = min (from_nearest m vs v) (least_distance m vs)
