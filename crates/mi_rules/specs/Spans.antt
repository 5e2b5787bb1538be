-- Which keys of an opened leaf are read.
use Rattle.std.specs.Prelude.{ℕ, ◌+◌, ◌-◌, ◌^◌, ◌&&◌, List, [], ◌∷◌, Bool, length, min, slice_index, Option, Some, None}
use Rattle.mi_key.specs.declared.keys.KeyParts.{KeyParts}
use Rattle.mi_key.specs.Clusters.{cluster_of}
use Rattle.mi_key.specs.Ranges.{stands_between}

-- a distance, cut to what a key may have
abbrev pub cut : ℕ → ℕ
cut d = min d (2 ^ 27 - 1)

-- the object-pivot rule: the distances to the first pivot that differ from the query's by at most the radius; 0 without pivots
abbrev pub least_distance : List ℕ → ℕ → List ℕ → ℕ
least_distance dq r [] = 0
least_distance dq r (p ∷ ps) = cut (slice_index dq p - r)

abbrev pub greatest_distance : List ℕ → ℕ → List ℕ → ℕ
greatest_distance dq r [] = 0
greatest_distance dq r (p ∷ ps) = cut (slice_index dq p + r)

-- the key is of this cell, and the rule lets its distance through
abbrev pub is_in_span : List ℕ → ℕ → ℕ → List ℕ → KeyParts → Bool
is_in_span dq r levels prefix parts = stands_between (cluster_of (length dq) levels prefix) (least_distance dq r prefix) (greatest_distance dq r prefix) parts

-- the key is of this cell, and its distance lies in the hull, cut to what a key may have
abbrev pub is_in_hull : ℕ → ℕ → List ℕ → ℕ × ℕ → KeyParts → Bool
is_in_hull pivots levels prefix hull parts = stands_between (cluster_of pivots levels prefix) (cut hull.0) (cut hull.1) parts

-- What a query for the nearest reads of a leaf with a hull: all of the hull while it has too few rows, and otherwise what of it the
-- object-pivot rule lets through at the last row's distance.
abbrev pub is_near : List ℕ → Option ℕ → ℕ → List ℕ → ℕ × ℕ → KeyParts → Bool
is_near dq None levels prefix hull parts = is_in_hull (length dq) levels prefix hull parts
is_near dq (Some worst) levels prefix hull parts = is_in_hull (length dq) levels prefix hull parts && is_in_span dq worst levels prefix parts
