-- When a reply to an operation is right.
use Rattle.std.specs.Prelude.{◌≡◌, ℕ, ℤ, ◌+◌, ◌-◌, ◌≤◌, true, false, List, length, Some, take, slice_get}
use Rattle.mi_base.specs.declared.records.Update.{Update}
use Rattle.mi_base.specs.declared.records.Update.TheVariants as update
use Rattle.mi_base.specs.declared.records.LogEvent.{LogEvent}
use Rattle.mi_base.specs.declared.records.Op.{Op}
use Rattle.mi_base.specs.declared.records.Op.TheVariants.{Insert, Delete, Range, Nearest}
use Rattle.mi_base.specs.declared.records.Reply.{Reply}
use Rattle.mi_base.specs.declared.records.Reply.TheVariants as reply
use Rattle.mi_base.specs.declared.records.Position.{Position}
use Rattle.mi_base.specs.declared.records.Row.{Row}
use Rattle.mi_base.specs.Configuration.{Configuration, metric_space, space_of}
use Rattle.mi_base.specs.History.{Entered, entered, updates_of, at_position, IsPosition, is_live, range_scan, nearest_scan}
use Rattle.mi_rules.specs.Passing.{opened_count, candidates, kth_distance, reached_count}

-- update number n of the log is this one
pub record IsUpdateNumber (log : List LogEvent) (n : ℕ) (e : Entered) : Type 0 where
  pub counted : 1 ≤ n
  pub stands : slice_get (entered log) (n - 1) ≡ Some e

-- the updates before number n
abbrev pub updates_before : ℕ → List LogEvent → List Update
updates_before n log = take (n - 1) (updates_of log)

-- the updates of the prefix at a position
abbrev pub history_at : List LogEvent → Position → List Update
history_at log p = updates_of (at_position log p)

-- the reply to a range query at a position: the rows are the scan, and the work is that of the cells
pub record IsRange (c : Configuration) (log : List LogEvent) (radius : ℕ) (query : List ℤ) (p : Position) (rows : List Row) (cells distances : ℕ) : Type 0 where
  pub position : IsPosition log p
  pub rows_are : rows ≡ range_scan (metric_space c) (history_at log p) query radius
  pub cells_are : cells ≡ opened_count (space_of c) c.levels (at_position log p) query radius
  pub distances_are : distances ≡ length c.pivots + length (candidates (space_of c) c.levels (at_position log p) query radius)

-- the reply to a query for the nearest at a position: the rows are the scan, and the cells are those that have to be opened for them
pub record IsNearest (c : Configuration) (log : List LogEvent) (count : ℕ) (query : List ℤ) (p : Position) (rows : List Row) (cells : ℕ) : Type 0 where
  pub position : IsPosition log p
  pub rows_are : rows ≡ nearest_scan (metric_space c) (history_at log p) query count
  pub cells_are : cells ≡ reached_count (space_of c) c.levels (at_position log p) query (kth_distance count rows)

-- The reply to operation number op of the session, where so many pages are allotted at the end. A pair that isn't listed is not right.
abbrev pub Right : Configuration → List LogEvent → ℕ → ℕ → ℕ → Op → Reply → Type 0
Right c log allotted session op (Insert id vector) (reply.Stored n) =
    IsUpdateNumber log n (record { session = session; op = op; update = update.Insert id vector }) × (is_live id (updates_before n log) ≡ false)
Right c log allotted session op (Delete id) (reply.Removed n) =
    IsUpdateNumber log n (record { session = session; op = op; update = update.Delete id }) × (is_live id (updates_before n log) ≡ true)
Right c log allotted session op (Insert id vector) (reply.Present p) = IsPosition log p × (is_live id (history_at log p) ≡ true)
Right c log allotted session op (Delete id) (reply.Absent p) = IsPosition log p × (is_live id (history_at log p) ≡ false)
Right c log allotted session op (Insert id vector) (reply.Full limit) =
    (limit ≡ c.updates) × (length (updates_of log) ≡ limit) × (is_live id (updates_of log) ≡ false)
Right c log allotted session op (Delete id) (reply.Full limit) =
    (limit ≡ c.updates) × (length (updates_of log) ≡ limit) × (is_live id (updates_of log) ≡ true)
Right c log allotted session op (Insert id vector) (reply.NoPages limit) = (limit ≡ c.pages) × (allotted ≡ c.pages)
Right c log allotted session op (Range radius query) (reply.Range p rows cells distances) = IsRange c log radius query p rows cells distances
Right c log allotted session op (Nearest count query) (reply.Nearest p rows cells) = IsNearest c log count query p rows cells
Right c log allotted session op o reply.Memory = Unit {0}
Right c log allotted session op o y = ⊥
