-- Which value of the core state lies in which slot: the board in 0, the shard k in k + 1, the page p in p + 17.
use Rattle.std.specs.Prelude.{ℕ, ◌+◌, List, [], ◌∷◌, ◌++◌, Option, Some, None, map, slice_index_or}
use Rattle.mi_base.specs.Configuration.{Configuration}
use Rattle.mi_page.specs.Nodes.{Node}
use Rattle.mi_entries.specs.Records.{Rows, Shard}
use Rattle.mi_core.specs.State.{State}
use Rattle.mi_latch.specs.declared.slots.Slot.{Slot}
use Rattle.mi_latch.specs.declared.slots.Slot.TheVariants.{Vacant, OfBoard, OfShard, OfPage}

-- a page that isn't linked has no value in its slot
abbrev pub slot_of : Option Node → Slot
slot_of None = Vacant
slot_of (Some n) = OfPage n

-- who holds a shard stands in its word
abbrev pub of_shard : Shard → Slot
of_shard s = OfShard s.rows

abbrev pub cells : State → List Slot
cells c = OfBoard c.board ∷ map of_shard c.shards ++ map slot_of c.pages

-- no records, and no room
abbrev pub no_rows : Rows
no_rows = record { records = []; room = 0 }

-- how many slots there are
abbrev pub slot_count : Configuration → ℕ
slot_count c = c.pages + 17

abbrev pub at : State → ℕ → Slot
at c i = slice_index_or (cells c) i Vacant
