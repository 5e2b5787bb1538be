-- The deletes of an object.
use Rattle.std.specs.Prelude.{◌≡◌, ◌≤◌, ℕ, ◌==◌, List, Bool, false, length, take, drop, Some, slice_get}
use Rattle.std.specs.List.{list_any}
use Rattle.mi_base.specs.declared.records.Update.{Update}
use Rattle.mi_base.specs.declared.records.Update.TheVariants.{Insert, Delete}
use Rattle.mi_base.specs.declared.records.LogEvent.{LogEvent}
use Rattle.mi_base.specs.declared.records.LogEvent.TheVariants.{Update as Made}
use Rattle.mi_base.specs.History.{updates_of}

-- how many updates the first k events of a log have
abbrev pub updates_by : List LogEvent → ℕ → ℕ
updates_by log k = length (updates_of (take k log))

-- the update deletes the identifier
abbrev pub deletes : ℕ → Update → Bool
deletes id (Insert i vector) = false
deletes id (Delete i) = i == id

-- event k of the log is the first delete of an identifier after the update of number birth
pub record IsFirstDelete (log : List LogEvent) (id birth k : ℕ) : Type 0 where
  pub session : ℕ
  pub op : ℕ
  pub there : slice_get log k ≡ Some (Made session op (Delete id))
  pub later : birth ≤ updates_by log k
  pub first : list_any (deletes id) (drop birth (updates_of (take k log))) ≡ false
