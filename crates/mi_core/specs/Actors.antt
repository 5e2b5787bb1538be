-- What an actor's record has to do with what all share.
use Rattle.std.specs.Prelude.{◌≡◌, ◌≤◌, ◌<◌, ℕ, ◌==◌, List, true, length, Option, Some, None}
use Rattle.std.specs.List.{filter}
use Rattle.mi_base.specs.declared.records.LogEvent.{LogEvent}
use Rattle.mi_base.specs.declared.records.Position.{Position}
use Rattle.mi_base.specs.History.{Entered, IsPosition, at_position, entered, events_at}
use Rattle.mi_page.specs.Nodes.{Node}
use Rattle.mi_tree.specs.Cells.{is_leaf}
use Rattle.mi_tree.specs.Legal.{cells_of}
use Rattle.mi_tree.specs.Births.{was_split}
use Rattle.mi_board.specs.Boards.{floor_of, BoardState}
use Rattle.mi_entries.specs.Actors.{Actor, Pin, SplitWork, SweepWork}
use Rattle.mi_core.specs.State.{board_actor, node_at}
use Rattle.mi_entries.specs.Records.{Shard, shard_at}
use Rattle.mi_entries.specs.Entries.{grid}

-- the updates that an actor made
abbrev pub made_by : ℕ → List LogEvent → List Entered
made_by a log = filter (λ e. e.session == a) (entered log)

-- the position of a pin
abbrev pub pinned_at : Option Pin → Option Position
pinned_at None = None
pinned_at (Some p) = Some p.at

-- it has seen a part of the log; its floor is a position that no pin is below; its pin's cells are those of its position
pub record Saw (b : BoardState) (r : Actor) : Type 0 where
  pub seen : r.seen ≤ length b.log
  pub floor : IsPosition b.log r.floor
  pub low : events_at r.floor ≤ events_at (floor_of b)
  pub pin : (p : Pin) → r.pin ≡ Some p → IsPosition b.log p.at × (p.cells ≡ cells_of b.settings (at_position b.log p.at))

-- the board has its claim, its reservation and its pin; a shard that it has taken is its own; its claim is of a leaf, and its split is of that leaf
pub record Holds (b : BoardState) (shards : List Shard) (a : ℕ) (r : Actor) : Type 0 where
  pub claim : (board_actor b a).claim ≡ r.claim
  pub reserved : (board_actor b a).reserved ≡ r.reserved
  pub pin : (board_actor b a).pin ≡ pinned_at r.pin
  pub shard : (k : ℕ) → r.shard ≡ Some k → (k < 16) × ((shard_at shards k).holder ≡ Some a)
  pub leaf : (p : List ℕ) → r.claim ≡ Some p → is_leaf (grid b.settings) b.log p ≡ true
  pub split : (w : SplitWork) → r.split ≡ Some w → r.claim ≡ Some w.leaf
  -- who has reserved with this shard in hand has room for a record in it
  pub room : (k : ℕ) → r.shard ≡ Some k → r.reserved_here ≡ true → (r.reserved ≡ true) × (length (shard_at shards k).rows.records < (shard_at shards k).rows.room)

-- an actor's record fits what all share: what it saw, its own updates, what it holds, what it sweeps, and its fresh page
pub record Suits (b : BoardState) (shards : List Shard) (pages : List (Option Node)) (a : ℕ) (r : Actor) : Type 0 where
  pub saw : Saw b r
  pub own : made_by a b.log ≡ r.own
  pub holds : Holds b shards a r
  -- what it sweeps was split at its floor
  pub sweep : (w : SweepWork) → r.sweep ≡ Some w → was_split w.leaf (at_position b.log r.floor) ≡ true
  -- its fresh page is allotted, and linked nowhere
  pub fresh : (p : ℕ) → r.fresh ≡ Some p → (p < b.allotted) × (node_at pages p ≡ None)
