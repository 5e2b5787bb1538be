-- What is left of a hall whose places were all absorbed into one.
use Rattle.std.specs.Prelude.{◌≡◌, ◌≤◌, ◌<◌, ◌⊎◌, ℕ, ◌+◌, ◌==◌, [], true, IsTrue, Option, Some, None, length, slice_get, vec_capacity}
use Rattle.std.specs.List.{list_any}
use Rattle.mi_base.specs.Prefixes.{has}
use Rattle.mi_core.specs.Actors.{made_by}
use Rattle.mi_core.specs.Kept.{Kept}
use Rattle.mi_entries.specs.Actors.{Actor}
use Rattle.mi_entries.specs.Records.{shard_at}
use Rattle.mi_latch.specs.declared.slots.Slot.{Slot}
use Rattle.mi_latch.specs.declared.slots.Slot.TheVariants.{OfBoard, OfPage, OfShard, Vacant}
use Rattle.mi_latch.specs.Ends.{IsBare}
use Rattle.mi_latch.specs.Views.{IsOne}
use Rattle.mi_page.specs.Nodes.{Node}
use Rattle.mi_solo.specs.Solos.{MayTurn, SoloState, view_of}
use Rattle.mi_tree.specs.Growing.{Grows}
use Rattle.mi_world.specs.View.{Absorbed, SameFlags, SameLeaf, SameSplit, SameSweep, SameUpdate, View}
use Rattle.mi_hall.specs.declared.closing.Room.{Room}

-- an actor is that of the view, or was absorbed into it
abbrev pub Stands : View → ℕ → Type 0
Stands v k = (k ≡ v.actor) ⊎ (list_any (λ (x : Absorbed). x.actor == k) v.absorbed ≡ true)

-- the first actor, and each that was made by this one or by one of those absorbed, is this one or was absorbed
pub record IsLast (v : View) : Type 0 where
  pub first : Stands v 0
  pub heirs : (k : ℕ) → has k v.forked ≡ true → Stands v k

-- what is its actor's own is as it was
pub record SameActor (old new : View) : Type 0 where
  pub update : SameUpdate old new
  pub leaf : SameLeaf old new
  pub sweep : SameSweep old new
  pub split : SameSplit old new
  pub flags : SameFlags old new
  pub pin : new.pin ≡ old.pin
  pub floor : new.floor ≡ old.floor
  pub fresh : new.fresh ≡ old.fresh
  pub owes : new.owes ≡ old.owes
  pub lacked : new.lacked ≡ old.lacked

-- A kept core in the turn of the view's actor, which goes on from what that has seen. Nobody claims anything or has a pin, all others have ended, and only
-- this one may have a flag. The actors are those that the view stands for, and the log has of each its own updates
pub record Closes (v : View) (s : SoloState) : Type 0 where
  pub kept : Kept s.state
  pub settings : s.state.board.settings ≡ v.settings
  pub turn : s.turn ≡ v.actor
  pub going : MayTurn s.state s.turn
  pub seen : Grows v.seen s.state.board.log
  pub told : IsTrue v.told → s.state.board.allotted ≡ s.state.board.settings.pages
  pub same : SameActor v (view_of s)
  pub bare : (a : ℕ) (r : Actor) → slice_get s.state.actors a ≡ Some r → IsBare r
  pub free : (k : ℕ) → (shard_at s.state.shards k).holder ≡ None
  pub undone : (a : ℕ) (r : Actor) → slice_get s.state.actors a ≡ Some r → r.undone ≡ true → v.undone ≡ true
  pub early : (a : ℕ) (r : Actor) → slice_get s.state.actors a ≡ Some r → r.early ≡ true → v.early ≡ true
  pub others : (a : ℕ) (r : Actor) → slice_get s.state.actors a ≡ Some r → (a ≡ v.actor) ⊎ (r.ended ≡ true)
  pub all : (a : ℕ) → a < length s.state.actors → Stands v a
  pub own : made_by v.actor s.state.board.log ≡ v.own
  pub absorbed : (x : Absorbed) → IsOne x v.absorbed → (x.actor < length s.state.actors) × (made_by x.actor s.state.board.log ≡ x.own)

-- the page of a slot
abbrev pub page_in : Slot → Option Node
page_in (OfPage n) = Some n
page_in (OfBoard b) = None
page_in (OfShard rows) = None
page_in Vacant = None

-- there is room for the values of so many slots, and for the rows of so many actors
pub record HasRoom (slots actors : ℕ) (room : Room) : Type 0 where
  pub values : (room.values.items ≡ []) × (slots ≤ vec_capacity room.values)
  pub shards : (room.shards.items ≡ []) × (16 ≤ vec_capacity room.shards)
  pub pages : (room.pages.items ≡ []) × (slots ≤ vec_capacity room.pages + 17)
  pub rows : length room.rows.items ≡ actors
