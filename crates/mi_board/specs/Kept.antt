-- What holds of every board.
use Rattle.std.specs.Prelude.{count_by, nat_lt, take, ◌≡◌, ◌<◌, ◌≤◌, ◌+◌, ℕ, List, [], ◌∷◌, Bool, length, true, false, Some, Option, None}
use Rattle.std.specs.Arc.{arc_value}
use Rattle.std.specs.List.{AllByRecursion}
use Rattle.mi_tree.specs.Births.{was_split}
use Rattle.mi_base.specs.declared.records.LogEvent.{LogEvent}
use Rattle.mi_base.specs.Configuration.{Configuration, IsWithinLimits}
use Rattle.mi_base.specs.History.{IsPosition, at_position, updates_of}
use Rattle.mi_board.specs.declared.actors.ActorState.{ActorState}
use Rattle.mi_board.specs.declared.retired.RetiredLeaf.{RetiredLeaf}
use Rattle.mi_board.specs.declared.shared.KeptCatalog.{KeptCatalog}
use Rattle.mi_board.specs.Actors.{is_claimed}
use Rattle.mi_board.specs.Boards.{cells_in}
use Rattle.mi_tree.specs.declared.outcomes.Leaf.{Leaf}
use Rattle.mi_tree.specs.Catalog.{CatalogState}
use Rattle.mi_tree.specs.Counting.{has_leaf}
use Rattle.mi_tree.specs.Legal.{LegalLog, cells_of}

-- a claim is that of a leaf, and no later actor has the same
abbrev pub ClaimStands : List Leaf → List ActorState → Option (List ℕ) → Type 0
ClaimStands leaves later None = Unit {0}
ClaimStands leaves later (Some p) = (has_leaf p leaves ≡ true) × (is_claimed p later ≡ false)

-- each claim is that of a leaf, and no two actors claim one
abbrev pub ClaimsStand : List Leaf → List ActorState → Type 0
ClaimsStand leaves [] = Unit {0}
ClaimsStand leaves (a ∷ actors) = ClaimStands leaves actors a.claim × ClaimsStand leaves actors

-- the log is legal, the catalog has its cells, the count is that of its updates, the claims stand, and there is room for what was reserved
pub record IsBoard (c : Configuration) (log : List LogEvent) (catalog : CatalogState) (updates : ℕ) (actors : List ActorState) (room : ℕ) : Type 0 where
  pub limits : IsWithinLimits c
  pub legal : LegalLog c log
  pub cells : catalog ≡ cells_in c log
  pub counted : updates ≡ length (updates_of log)
  pub few : length actors ≤ 4294967295
  pub claims : ClaimsStand (cells_of c log) actors
  pub space : length log + count_by (λ a. a.reserved) actors ≤ room

-- the catalog that is kept for pins is that of its position
abbrev pub IsShared : Configuration → List LogEvent → Option KeptCatalog → Type 0
IsShared c log None = Unit {0}
IsShared c log (Some k) = IsPosition log k.at × (arc_value k.catalog ≡ cells_in c (at_position log k.at))

-- the leaf was split by the event at this place of the log, and by no other
pub record IsRetired (log : List LogEvent) (r : RetiredLeaf) : Type 0 where
  pub there : r.event < length log
  pub split : (n : ℕ) → was_split r.prefix (take n log) ≡ nat_lt r.event n

-- beside that, each leaf has a mark that says whether it is passed over, no more pages are allotted than may be, the kept catalog stands, and the
-- retired leaves were split where they say
pub record HoldsBoard (c : Configuration) (log : List LogEvent) (catalog : CatalogState) (updates : ℕ) (actors : List ActorState) (room : ℕ) (marks : List Bool) (allotted : ℕ) (kept : Option KeptCatalog) (retired : List RetiredLeaf) : Type 0 where
  pub board : IsBoard c log catalog updates actors room
  pub each : length marks ≡ length catalog.leaves
  pub pages : allotted ≤ c.pages
  pub shared : IsShared c log kept
  pub retired_are : AllByRecursion (IsRetired log) retired
