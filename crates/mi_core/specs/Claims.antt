-- Who holds what.
use Rattle.std.specs.Prelude.{◌≡◌, ◌-◌, ℕ, length, drop, List, [], ◌∷◌, true, false, Some, slice_get}
use Rattle.std.specs.List.{list_any}
use Rattle.mi_base.specs.declared.records.LogEvent.{LogEvent}
use Rattle.mi_tree.specs.Cells.{same_cell}
use Rattle.mi_tree.specs.Births.{was_split}
use Rattle.mi_entries.specs.Actors.{Actor, SweepWork}

-- an actor holds the shard
pub record HasHolder (actors : List Actor) (k a : ℕ) : Type 0 where
  pub actor : Actor
  pub there : slice_get actors a ≡ Some actor
  pub shard : actor.shard ≡ Some k

-- two that claim one leaf are one
abbrev pub ClaimAlone : List Actor → Type 0
ClaimAlone actors = (a b : ℕ) (r t : Actor) (p : List ℕ) → slice_get actors a ≡ Some r → slice_get actors b ≡ Some t → r.claim ≡ Some p → t.claim ≡ Some p → a ≡ b

-- two that sweep one leaf are one
abbrev pub SweepAlone : List Actor → Type 0
SweepAlone actors = (a b : ℕ) (r t : Actor) (x y : SweepWork) → slice_get actors a ≡ Some r → slice_get actors b ≡ Some t → r.sweep ≡ Some x → t.sweep ≡ Some y → x.leaf ≡ y.leaf → a ≡ b

-- each leaf on the list was split in the log, stands there once, and nobody sweeps it
abbrev pub AreRetired : List LogEvent → List Actor → List (List ℕ) → Type 0
AreRetired log actors [] = Unit {0}
AreRetired log actors (p ∷ ps) =
    (was_split p log ≡ true) × (list_any (same_cell p) ps ≡ false)
    × ((a : ℕ) (r : Actor) (w : SweepWork) → slice_get actors a ≡ Some r → r.sweep ≡ Some w → same_cell p w.leaf ≡ false)
    × AreRetired log actors ps

-- the last so many elements of a list
abbrev pub last_of : {X : Type 0} → ℕ → List X → List X
last_of n xs = drop (length xs - n) xs
