-- Actors that are made, absorbed, and left at the end.
use Rattle.std.specs.Prelude.{◌≡◌, ◌≢◌, ◌<◌, ◌⊎◌, true, false, cond, nat_le, max, ℕ, ◌+◌, [], ◌∷◌, ◌++◌, None, Some, length, slice_get}
use Rattle.atomic_table.specs.Table.{rest}
use Rattle.mi_base.specs.Configuration.{Configuration}
use Rattle.mi_board.specs.Boards.{BoardState, with_more}
use Rattle.mi_entries.specs.Actors.{Actor}
use Rattle.mi_core.specs.Effects.{saw}
use Rattle.mi_core.specs.Events.{IsFree, ended, made_actor, more_seen}
use Rattle.mi_core.specs.State.{State}
use Rattle.mi_latch.specs.declared.slots.Slot.{Slot}
use Rattle.mi_latch.specs.Boards.{Telling, seeing}
use Rattle.mi_latch.specs.Layout.{at, slot_count}
use Rattle.mi_latch.specs.Shows.{Has, HasKey, known}
use Rattle.mi_latch.specs.Views.{Fits, Held, Mine, Sight}

-- an actor holds nothing
pub record IsBare (r : Actor) : Type 0 where
  pub shard : r.shard ≡ None
  pub free : IsFree r
  pub split : r.split ≡ None
  pub pin : r.pin ≡ None

-- what a new actor knows: what its maker knows
abbrev pub child_mine : BoardState → Mine → Mine
child_mine b m = record {
  part = made_actor b m.part.floor;
  log = b.log;
  named = m.named;
  told = m.told;
  wanted = false;
  least = b.height;
  count = length b.actors + 1;
  note = record { board = with_more b; high = None; items = 0 };
}

-- the board goes back with one more actor, which has no seat yet
abbrev pub adding : Sight → BoardState → Telling → Sight
adding v b t = known v.actor (seeing (saw b v.mine.part) (with_more b) t v.mine) (rest v.out) ((length b.actors, child_mine b v.mine) ∷ []) v.absorbed (v.forked ++ length b.actors ∷ [])

-- what an actor knows once another is absorbed, and what is kept of the other
abbrev pub blend : Mine → Mine → Mine
blend m t = record {
  part = more_seen t.part m.part;
  log = cond (nat_le m.part.seen t.part.seen) t.log m.log;
  named = t.named ++ m.named;
  told = cond m.told true t.told;
  wanted = m.wanted;
  least = max m.least t.least;
  count = max m.count t.count;
  note = m.note;
}

abbrev pub over : Mine → Mine
over t = record t { part = ended t.part; wanted = false }

-- what is left of a table whose seats were all absorbed into one: the values of a kept core state. Its actors are that seat's and those absorbed, which are over
pub record Leaves (settings : Configuration) (homes : ℕ → Slot) (v : Sight) : Type 0 where
  pub core : State
  pub held : Held settings core
  pub values : (i : ℕ) → i < slot_count settings → homes i ≡ at core i
  pub mine : Fits core v.actor v.mine
  pub going : v.mine.part.ended ≡ false
  pub others : (a : ℕ) (r : Actor) → slice_get core.actors a ≡ Some r → a ≢ v.actor → r.ended ≡ true
  -- what is kept of each that was absorbed is so, and there is no other actor
  pub absorbed : (a : ℕ) (m : Mine) → Has v.absorbed a m → Fits core a m
  pub all : (a : ℕ) → a < length core.actors → (a ≡ v.actor) ⊎ HasKey v.absorbed a
