-- Which event of its actor a step of a seat is: of whatever kept core state backs what the seat knows, this one.
use Rattle.std.specs.Prelude.{◌≡◌, ◌+◌, ℕ, List, [], ◌∷◌, None}
use Rattle.mi_base.specs.Configuration.{Configuration}
use Rattle.mi_entries.specs.Records.{shard_at}
use Rattle.mi_core.specs.Events.{Can, Event, after}
use Rattle.mi_core.specs.Events.Event.{absorb, claim_shard}
use Rattle.mi_core.specs.State.{State}
use Rattle.mi_latch.specs.declared.slots.Slot.{Slot}
use Rattle.mi_latch.specs.declared.slots.Slot.TheVariants.{OfShard}
use Rattle.mi_latch.specs.Ends.{blend, over}
use Rattle.mi_latch.specs.Layout.{at}
use Rattle.mi_latch.specs.Shows.{Backs, Changes, HasKey, Makes, Merges, joined, stands, with_out}
use Rattle.mi_latch.specs.Takes.{see_shard}
use Rattle.mi_latch.specs.Views.{Fits, Held, Marks, Next, Own, Sight, made}

-- this event may come, and it is what changes while the word i becomes new
pub record Acts (c : State) (e : Event) (v w : Sight) (ys : List (ℕ × Slot)) (i new : ℕ) : Type 0 where
  pub can : Can c v.actor v.mine.part e
  pub changes : Changes at Fits Own Marks made Next c (after c v.actor v.mine.part e) v w ys i new

-- the give of y into the slot i is this event
abbrev pub GivesBy : Configuration → Event → Sight → Sight → ℕ → Slot → Type 0
GivesBy settings e v w i y = (c : State) → Held settings c → Backs at Fits Own c v
    → Acts c e v w ((i, y) ∷ w.out) i 0 × Makes made c (after c v.actor v.mine.part e) v w

-- the take of a shard that nobody holds is its claim
abbrev pub TakesShard : Configuration → ℕ → Sight → Type 0
TakesShard settings k v = (c : State) → Held settings c → Backs at Fits Own c v → (shard_at c.shards k).holder ≡ None
    → Acts c (claim_shard k (shard_at c.shards k).rows) v (with_out (see_shard k) v (k + 1) (OfShard (shard_at c.shards k).rows)) [] (k + 1) (v.actor + 1)

-- the join of two seats, which stand for other actors, ends the actor of the one that is taken in
abbrev pub JoinsBy : Configuration → Sight → Sight → Type 0
JoinsBy settings v w = (c : State) → Held settings c → Backs at Fits Own c v → Backs at Fits Own c w → ((k : ℕ) → HasKey (stands v) k → HasKey (stands w) k → ⊥)
    → Can c v.actor v.mine.part (absorb w.actor w.mine.part)
    × Merges at Fits Own Marks made Next c (after c v.actor v.mine.part (absorb w.actor w.mine.part)) v w (joined blend over v w)
