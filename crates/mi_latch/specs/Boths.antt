-- Sections of the board with other slots in hand, whose event is the give of the board.
use Rattle.std.specs.Prelude.{◌≡◌, ◌<◌, ℕ, ◌+◌, List, [], ◌∷◌, Some}
use Rattle.atomic_table.specs.Table.{rest}
use Rattle.mi_base.specs.Configuration.{Configuration}
use Rattle.mi_page.specs.Nodes.{Node}
use Rattle.mi_board.specs.Boards.{BoardState}
use Rattle.mi_entries.specs.Actors.{Actor}
use Rattle.mi_entries.specs.Records.{Rows, held_by, shard_at}
use Rattle.mi_core.specs.Events.{Can, Event, after}
use Rattle.mi_core.specs.State.{State, node_at, put_actor, put_board, put_page, put_shard}
use Rattle.mi_latch.specs.declared.slots.Slot.{Slot}
use Rattle.mi_latch.specs.declared.slots.Slot.TheVariants.{OfBoard, OfPage, OfShard}
use Rattle.mi_latch.specs.Boards.{IsTold, Telling}
use Rattle.mi_latch.specs.Layout.{at}
use Rattle.mi_latch.specs.Shows.{HasKey, One}
use Rattle.mi_latch.specs.Views.{Fits, Held, HoldsLast, Mine, Seated}

-- the board and the slot i are out, and others beside them
pub record HoldsBoth (m : Seated) (was : BoardState) (i : ℕ) (old : Slot) (more : List (ℕ × Slot)) : Type 0 where
  pub last : HoldsLast m 0 (OfBoard was)
  pub also : rest m.0.out ≡ (i, old) ∷ more
  pub apart : HasKey more i → ⊥

-- what the event writes beside the board and the record of its actor
pub record Middle (a : ℕ) (m : Mine) (c : State) (board : BoardState) (to : Actor) (i : ℕ) (new : Slot) (e : Event) : Type 0 where
  pub can : Can c a m.part e
  pub mid : State
  pub is : after c a m.part e ≡ put_actor a to (put_board board mid)
  pub one : One (at c) (at mid) i new
  pub actors : mid.actors ≡ c.actors
  pub holders : (j : ℕ) → j < 16 → (shard_at mid.shards j).holder ≡ (shard_at c.shards j).holder

-- with the board and one more slot in hand, an event makes these of them, and this record of its actor's
pub record MakesBoth (settings : Configuration) (a : ℕ) (m : Mine) (was board : BoardState) (to : Actor) (t : Telling) (i : ℕ) (old new : Slot) (e : Event) : Type 0 where
  pub does : (c : State) → Held settings c → Fits c a m → c.board ≡ was → at c i ≡ old → Middle a m c board to i new e
  pub tells : IsTold a m was board to t

-- the board, a page and a shard are out
pub record HoldsCommit (m : Seated) (was : BoardState) (page : ℕ) (had : Node) (k : ℕ) (rows : Rows) : Type 0 where
  pub last : HoldsLast m 0 (OfBoard was)
  pub also : rest m.0.out ≡ (page + 17, OfPage had) ∷ (k + 1, OfShard rows) ∷ []
  pub shard : m.0.mine.part.shard ≡ Some k

-- with these in hand, an event makes these of them, and this record of its actor's
pub record MakesCommit (settings : Configuration) (a : ℕ) (m : Mine) (was board : BoardState) (to : Actor) (t : Telling) (page : ℕ) (had new : Node) (k : ℕ) (rows left : Rows) (e : Event) : Type 0 where
  pub does : (c : State) → Held settings c → Fits c a m → c.board ≡ was → node_at c.pages page ≡ Some had → (shard_at c.shards k).rows ≡ rows
      → Can c a m.part e × (after c a m.part e ≡ put_actor a to (put_page page new (put_shard k (held_by (Some a) left) (put_board board c))))
  pub tells : IsTold a m was board to t
