-- Choosing objects farthest first, after Gonzalez, "Clustering to minimize the maximum intercluster distance" (1985).
use Rattle.std.specs.Prelude.{◌≡◌, ℕ, ℤ, zero, suc, ◌==◌, List, [], ◌∷◌, ◌++◌, map, Option, Some, None, slice_index_or, if◌then◌else◌}
use Rattle.std.specs.List.{position_or_len}
use Rattle.mi_base.specs.Space.{MetricSpace}
use Rattle.mi_choose.specs.declared.choosing.Choice.{Choice}
use Rattle.mi_choose.specs.Covering.{cover_of, from_nearest, least_distance}

-- the objects at these places
abbrev pub objects_at : List (List ℤ) → List ℕ → List (List ℤ)
objects_at objects places = map (λ place. slice_index_or objects place []) places

-- the place of the first of the objects that are farthest from their nearest member
abbrev pub farthest_place : MetricSpace → List (List ℤ) → List (List ℤ) → ℕ
farthest_place m objects members = position_or_len (λ v. from_nearest m members v == cover_of m objects members) objects

-- Up to so many more places: each next one is the first of the farthest from those that are chosen, until the cover is 0.
-- From none all objects are as far as can be, so the first chosen is the first object.
abbrev pub chosen_after : MetricSpace → List (List ℤ) → ℕ → List ℕ → List ℕ
chosen_after m objects zero chosen = chosen
chosen_after m objects (suc count) chosen =
    if cover_of m objects (objects_at objects chosen) == 0 then chosen
    else chosen_after m objects count (chosen ++ farthest_place m objects (objects_at objects chosen) ∷ [])

-- the first of the farthest from the chosen, where there are objects
abbrev pub far_of : MetricSpace → List (List ℤ) → List ℕ → Option ℕ
far_of m [] chosen = None
far_of m (v ∷ objects) chosen = Some (farthest_place m (v ∷ objects) (objects_at (v ∷ objects) chosen))

-- how far apart the chosen and the far one are, 0 without objects
abbrev pub apart_of : MetricSpace → List (List ℤ) → List ℕ → Option ℕ → ℕ
apart_of m objects chosen None = 0
apart_of m objects chosen (Some far) = least_distance m (objects_at objects (chosen ++ far ∷ []))

-- the choice of up to so many of the objects
pub record IsFarthestFirst (m : MetricSpace) (objects : List (List ℤ)) (count : ℕ) (c : Choice) : Type 0 where
  pub chosen : c.chosen ≡ chosen_after m objects count []
  pub far : c.far ≡ far_of m objects c.chosen
  pub cover : c.cover ≡ cover_of m objects (objects_at objects c.chosen)
  pub apart : c.apart ≡ apart_of m objects c.chosen c.far
