-- Distances with the numbers of their pivots.
use Rattle.std.specs.Prelude.{ℕ, List, slice_index}

-- a pivot's distance and its number
abbrev pub number_pair : List ℕ → ℕ → ℕ × ℕ
number_pair dists i = (slice_index dists i, i)
