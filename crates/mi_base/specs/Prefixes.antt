-- What names a cell.
use Rattle.std.specs.Prelude.{ℕ, ◌&&◌, List, [], ◌∷◌, length, Bool, true, not, ◌==◌, nat_le, nat_lt}
use Rattle.std.specs.List.{list_all, list_any}
use Rattle.mi_base.specs.declared.limits.TheConstants.{MAX_LEVELS, MAX_PIVOTS}

-- the number stands in the list
abbrev pub has : ℕ → List ℕ → Bool
has x ys = list_any (λ y. y == x) ys

-- no number stands twice
abbrev pub are_different : List ℕ → Bool
are_different [] = true
are_different (x ∷ xs) = not (has x xs) && are_different xs

-- each is the number of one of at most so many pivots
abbrev pub all_below : ℕ → List ℕ → Bool
all_below n xs = list_all (λ x. nat_lt x n) xs

-- at most 6 of 32 pivots, none twice
abbrev pub is_prefix : List ℕ → Bool
is_prefix ps = nat_le (length ps) MAX_LEVELS && (all_below MAX_PIVOTS ps && are_different ps)
