-- The history, what is live after it, the log, and the answers by scan.
use Rattle.std.specs.Prelude.{◌≡◌, ◌≤◌, false, length, ℕ, ℤ, ◌+◌, ◌-◌, ◌==◌, List, [], ◌∷◌, Bool, not, nat_le, map, take}
use Rattle.std.specs.declared.cmp.Ordering.{Ordering}
use Rattle.std.specs.List.{AllByRecursion, filter, fold, list_any, filter_map}
use Rattle.std.specs.Prelude.{Option, Some, None}
use Rattle.std.specs.Ordering.{nat_cmp, ordering_then}
use Rattle.mi_base.specs.declared.records.Update.{Update}
use Rattle.mi_base.specs.declared.records.Update.TheVariants.{Insert, Delete}
use Rattle.mi_base.specs.declared.records.LogEvent.{LogEvent}
use Rattle.mi_base.specs.declared.records.LogEvent.TheVariants.{Update as Made, Split}
use Rattle.mi_base.specs.declared.records.Position.{Position}
use Rattle.mi_base.specs.declared.records.Row.{Row}
use Rattle.mi_base.specs.Space.{MetricSpace}
use Rattle.mi_base.specs.Sorting.{sorted, SameElements}

-- a live object: its identifier and its vector
pub record Object : Type 0 where
  pub id : ℕ
  pub vector : List ℤ

-- an insert adds its pair, a delete removes the pair of its identifier
abbrev pub live_after : List Object → Update → List Object
live_after objects (Insert id vector) = record { id = id; vector = vector } ∷ objects
live_after objects (Delete id) = filter (λ o. not (o.id == id)) objects

-- the live objects after a history
abbrev pub live : List Update → List Object
live history = fold live_after [] history

-- the identifier is that of one of these objects
abbrev pub is_among : ℕ → List Object → Bool
is_among id objects = list_any (λ o. o.id == id) objects

abbrev pub is_live : ℕ → List Update → Bool
is_live id history = is_among id (live history)

-- by distance, then identifier
abbrev pub row_cmp : Row → Row → Ordering
row_cmp a b = ordering_then (nat_cmp a.distance b.distance) (nat_cmp a.id b.id)

abbrev pub row_of : MetricSpace → List ℤ → Object → Row
row_of m query o = record { distance = m.d query o.vector; id = o.id }

-- the rows within a radius, in the order of the objects
abbrev pub hits : MetricSpace → List ℤ → ℕ → List Object → List Row
hits m query radius objects = filter (λ row. nat_le row.distance radius) (map (row_of m query) objects)

-- the answer to a range query by a scan
abbrev pub range_scan : MetricSpace → List Update → List ℤ → ℕ → List Row
range_scan m history query radius = sorted row_cmp (hits m query radius (live history))

-- the answer to a query for the nearest by a scan
abbrev pub nearest_scan : MetricSpace → List Update → List ℤ → ℕ → List Row
nearest_scan m history query count = take count (sorted row_cmp (map (row_of m query) (live history)))

-- an update in the log, with the session and the number of the operation that made it
pub record Entered : Type 0 where
  pub session : ℕ
  pub op : ℕ
  pub update : Update

abbrev pub entered_in : LogEvent → Option Entered
entered_in (Made session op update) = Some (record { session = session; op = op; update = update })
entered_in (Split prefix) = None

-- the updates of a log in order, each with its maker
abbrev pub entered : List LogEvent → List Entered
entered log = filter_map entered_in log

-- the updates of a log in order
abbrev pub updates_of : List LogEvent → List Update
updates_of log = map (λ e. e.update) (entered log)

-- how many events the prefix at a position has
abbrev pub events_at : Position → ℕ
events_at p = p.updates + p.splits

-- the prefix of the log that a position names
abbrev pub at_position : List LogEvent → Position → List LogEvent
at_position log p = take (events_at p) log

-- the log has a prefix with so many updates and splits
pub record IsPosition (log : List LogEvent) (p : Position) : Type 0 where
  pub within : events_at p ≤ length log
  pub updates : length (updates_of (at_position log p)) ≡ p.updates

-- the one object of an identifier among some, beside the others
pub record TheOne (id : ℕ) (objects : List Object) : Type 0 where
  pub object : Object
  pub named : object.id ≡ id
  pub whole : SameElements objects (object ∷ filter (λ o. not (o.id == id)) objects)

-- no identifier stands twice
abbrev pub Once : List Object → Type 0
Once [] = Unit {0}
Once (o ∷ objects) = AllByRecursion (λ x. (x.id == o.id) ≡ false) objects × Once objects

-- how many splits a log has
abbrev pub splits_of : List LogEvent → ℕ
splits_of log = length log - length (updates_of log)

-- the position of a log's end
abbrev pub end_of : List LogEvent → Position
end_of log = record { updates = length (updates_of log); splits = splits_of log }
