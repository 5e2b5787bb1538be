-- Keys in order, and the range of a page.
use Rattle.std.specs.Prelude.{◌≤◌, ◌<◌, ℕ, List, [], ◌∷◌, length, Bool, true, Option, Some, None, IsTrue, nat_lt}
use Rattle.std.specs.List.{AllByRecursion}

-- each key is below all later ones
abbrev pub Ascending : List ℕ → Type 0
Ascending [] = Unit {0}
Ascending (key ∷ keys) = AllByRecursion (λ later. key < later) keys × Ascending keys

-- below the high key; every key is, where there is none
abbrev pub is_below : Option ℕ → ℕ → Bool
is_below None key = true
is_below (Some high) key = nat_lt key high

-- the key lies in the range from the low key on and below the high key
pub record IsInside (low : ℕ) (high : Option ℕ) (key : ℕ) : Type 0 where
  pub from_low : low ≤ key
  pub below_high : IsTrue (is_below high key)

-- at most 32 keys, in ascending order, inside a page's range
pub record AreOrdered (low : ℕ) (high : Option ℕ) (keys : List ℕ) : Type 0 where
  pub few : length keys ≤ 32
  pub ascend : Ascending keys
  pub inside : AllByRecursion (IsInside low high) keys
