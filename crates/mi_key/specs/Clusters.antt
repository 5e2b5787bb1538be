-- The numbers of cells.
use Rattle.std.specs.Prelude.{ℕ, zero, suc, ◌+◌, List, [], ◌∷◌}
use Rattle.std.specs.Int.Digits.{number_from_digits}

-- a pivot's digit
abbrev pub digit_of : ℕ → ℕ
digit_of pivot = pivot + 1

-- the digits of a prefix, padded on the right with 0 to so many
abbrev pub digits_of : ℕ → List ℕ → List ℕ
digits_of zero ps = []
digits_of (suc levels) [] = 0 ∷ digits_of levels []
digits_of (suc levels) (p ∷ ps) = digit_of p ∷ digits_of levels ps

-- the number of the cell with this prefix, in a base of one more than the pivots
unfoldable pub cluster_of : ℕ → ℕ → List ℕ → ℕ
cluster_of pivots levels prefix = number_from_digits (pivots + 1) (digits_of levels prefix)
