-- The one cell where there are no pivots: it has the empty prefix, and each object belongs to it.
use Rattle.std.specs.Prelude.{ℕ, Bool, true, false, List, [], ◌∷◌, length, Option, Some, None, if◌then◌else◌}
use Rattle.std.specs.List.{list_any}
use Rattle.mi_base.specs.declared.records.Update.{Update}
use Rattle.mi_base.specs.declared.records.Update.TheVariants.{Insert, Delete}
use Rattle.mi_base.specs.declared.records.LogEvent.{LogEvent}
use Rattle.mi_base.specs.History.{live, updates_of}
use Rattle.mi_tree.specs.declared.outcomes.Leaf.{Leaf}

abbrev pub is_insert : Update → Bool
is_insert (Insert id vector) = true
is_insert (Delete id) = false

-- the least interval of the key distances of all that was ever put in; without pivots each key distance is 0
abbrev pub hull_after : List Update → Option (ℕ × ℕ)
hull_after history = if list_any is_insert history then Some (0, 0) else None

-- what the leaves after a log are without pivots
abbrev pub lone_cell : List LogEvent → List Leaf
lone_cell log = record { prefix = []; count = length (live (updates_of log)); hull = hull_after (updates_of log) } ∷ []
