-- What a vector is.
use Rattle.std.specs.Prelude.{◌≡◌, ℤ, ◌<◌, ◌≤◌, List, length, Bool, false, IsTrue, Some, nat_le, unsigned_abs, slice_get, take, ◌⊎◌}
use Rattle.std.specs.List.{list_all}
use Rattle.mi_base.specs.declared.limits.TheConstants.{MAX_COORDINATE, MAX_DIMS}
use Rattle.mi_base.specs.declared.refusals.VectorRefusal.{VectorRefusal}
use Rattle.mi_base.specs.declared.refusals.VectorRefusal.TheVariants.{Length, Coordinate}

-- a coordinate is from -1,000,000 to 1,000,000
abbrev pub is_coordinate : ℤ → Bool
is_coordinate z = nat_le (unsigned_abs z) MAX_COORDINATE

abbrev pub all_coordinates : List ℤ → Bool
all_coordinates xs = list_all is_coordinate xs

-- 1 to 64 coordinates
pub record IsVector (xs : List ℤ) : Type 0 where
  pub some : 1 ≤ length xs
  pub few : length xs ≤ MAX_DIMS
  pub coordinates : IsTrue (all_coordinates xs)

-- why these numbers are none: how many they are, or else the first that is no coordinate
abbrev pub IsRefused : List ℤ → VectorRefusal → Type 0
IsRefused xs (Length items) = (items ≡ length xs) × ((items ≡ 0) ⊎ (MAX_DIMS < items))
IsRefused xs (Coordinate place value) =
    (1 ≤ length xs) × (length xs ≤ MAX_DIMS) × (slice_get xs place ≡ Some value) × (is_coordinate value ≡ false) × IsTrue (all_coordinates (take place xs))
