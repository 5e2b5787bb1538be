-- Dictionary order of prefixes of which none begins another.
use Rattle.std.specs.Prelude.{ℕ, List, [], ◌∷◌, Bool, true, false, ◌==◌, nat_lt, ◌&&◌, ◌||◌}
use Rattle.std.specs.List.{list_all}

-- at the first place where they differ the first list has the smaller number
abbrev pub before : List ℕ → List ℕ → Bool
before [] ys = false
before (x ∷ xs) [] = false
before (x ∷ xs) (y ∷ ys) = nat_lt x y || ((x == y) && before xs ys)

-- each comes before all later ones
abbrev pub in_order : List (List ℕ) → Bool
in_order [] = true
in_order (x ∷ xs) = list_all (before x) xs && in_order xs
