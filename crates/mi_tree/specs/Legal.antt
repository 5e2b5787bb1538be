-- When a log is legal.
use Rattle.std.specs.Prelude.{◌&&◌, ◌≡◌, ◌<◌, ◌≤◌, ◌^◌, true, false, IsTrue, List, [], ◌∷◌, ◌++◌, length}
use Rattle.std.specs.List.{list_any}
use Rattle.mi_base.specs.declared.records.Update.TheVariants as update
use Rattle.mi_base.specs.declared.records.LogEvent.{LogEvent}
use Rattle.mi_base.specs.declared.records.LogEvent.TheVariants as event
use Rattle.mi_base.specs.Configuration.{Configuration, metric_space, space_of}
use Rattle.mi_base.specs.History.{updates_of, is_live}
use Rattle.mi_tree.specs.declared.outcomes.Leaf.{Leaf}
use Rattle.mi_tree.specs.Cells.{grid_of, same_cell}
use Rattle.mi_tree.specs.Counting.{catalog_after, is_wanted, is_overfull}

-- the leaves after a log, under these settings
abbrev pub cells_of : Configuration → List LogEvent → List Leaf
cells_of c log = catalog_after (grid_of (space_of c) c.levels) log

-- an event that may follow a log: an insert of a vector that fits, whose identifier has at most 40 bits and isn't live, a delete of a live one,
-- or a split of a leaf that is to be split
abbrev pub MayFollow : Configuration → List LogEvent → LogEvent → Type 0
MayFollow c log (event.Update session op (update.Insert id vector)) = IsTrue ((metric_space c).fits vector) × (is_live id (updates_of log) ≡ false) × (id < 2 ^ 40)
MayFollow c log (event.Update session op (update.Delete id)) = is_live id (updates_of log) ≡ true
MayFollow c log (event.Split prefix) = IsTrue (list_any (λ leaf. same_cell prefix leaf.prefix && is_wanted c.levels c.cell leaf) (cells_of c log))

-- no leaf that may be split holds more than four times the cell size
abbrev pub IsUncrowded : Configuration → List LogEvent → Type 0
IsUncrowded c log = list_any (is_overfull c.levels c.cell) (cells_of c log) ≡ false

-- each event may follow those before it, and leaves no leaf too full
abbrev pub EachMayFollow : Configuration → List LogEvent → List LogEvent → Type 0
EachMayFollow c earlier [] = Unit {0}
EachMayFollow c earlier (e ∷ es) = MayFollow c earlier e × (IsUncrowded c (earlier ++ e ∷ []) × EachMayFollow c (earlier ++ e ∷ []) es)

pub record LegalLog (c : Configuration) (log : List LogEvent) : Type 0 where
  pub few : length (updates_of log) ≤ c.updates
  pub each : EachMayFollow c [] log

-- no leaf is to be split
abbrev pub Settled : Configuration → List LogEvent → Type 0
Settled c log = list_any (is_wanted c.levels c.cell) (cells_of c log) ≡ false
