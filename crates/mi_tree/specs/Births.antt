-- Live objects with the numbers of their inserts, and the leaves that were split.
use Rattle.std.specs.Prelude.{ℕ, ℤ, ◌+◌, ◌==◌, List, [], ◌∷◌, Bool, false, not, Option, Some, None}
use Rattle.std.specs.List.{filter, filter_map, find, list_any}
use Rattle.mi_base.specs.declared.records.Update.{Update}
use Rattle.mi_base.specs.declared.records.Update.TheVariants.{Insert, Delete}
use Rattle.mi_base.specs.declared.records.LogEvent.{LogEvent}
use Rattle.mi_base.specs.declared.records.LogEvent.TheVariants.{Update as Made, Split}
use Rattle.mi_base.specs.History.{Object, updates_of}
use Rattle.mi_tree.specs.Cells.{same_cell}

-- a live object with the number of the update that inserted it
pub record Born : Type 0 where
  pub id : ℕ
  pub vector : List ℤ
  pub birth : ℕ

abbrev pub object_born : Born → Object
object_born b = record { id = b.id; vector = b.vector }

-- what the update of this number makes of the live objects
abbrev pub born_after : ℕ → List Born → Update → List Born
born_after n objects (Insert id vector) = record { id = id; vector = vector; birth = n } ∷ objects
born_after n objects (Delete id) = filter (λ o. not (o.id == id)) objects

-- the same for updates one after another, of which the first has the number after n
abbrev pub born_from : ℕ → List Born → List Update → List Born
born_from n objects [] = objects
born_from n objects (u ∷ us) = born_from (n + 1) (born_after (n + 1) objects u) us

-- the live objects after a history, each with its number
abbrev pub born : List Update → List Born
born history = born_from 0 [] history

-- the live object of an identifier after a log
abbrev pub living : ℕ → List LogEvent → Option Born
living id log = find (λ o. o.id == id) (born (updates_of log))

-- the event is the split of this leaf
abbrev pub is_split_of : List ℕ → LogEvent → Bool
is_split_of p (Made session op u) = false
is_split_of p (Split q) = same_cell p q

-- a log has the split of this leaf
abbrev pub was_split : List ℕ → List LogEvent → Bool
was_split p log = list_any (is_split_of p) log

abbrev pub split_in : LogEvent → Option (List ℕ)
split_in (Made session op u) = None
split_in (Split p) = Some p

-- the leaves that were split in a log, in the order of their splits
abbrev pub splits_in : List LogEvent → List (List ℕ)
splits_in log = filter_map split_in log
