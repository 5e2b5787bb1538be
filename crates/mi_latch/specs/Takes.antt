-- What a take tells.
use Rattle.std.specs.Prelude.{◌≡◌, ◌≢◌, ◌<◌, ◌-◌, ℕ, ◌∷◌, false, Some, None}
use Rattle.mi_base.specs.Configuration.{Configuration}
use Rattle.mi_page.specs.Nodes.{Node}
use Rattle.mi_board.specs.Boards.{BoardState}
use Rattle.mi_entries.specs.Actors.{Actor}
use Rattle.mi_entries.specs.Records.{Rows}
use Rattle.mi_core.specs.State.{State}
use Rattle.mi_latch.specs.declared.slots.Slot.{Slot}
use Rattle.mi_latch.specs.declared.slots.Slot.TheVariants.{Vacant, OfBoard, OfShard, OfPage}
use Rattle.mi_latch.specs.Layout.{at}
use Rattle.mi_latch.specs.Shows.{Backs, with_out}
use Rattle.mi_latch.specs.Views.{Fits, Held, Marks, Mine, Own, Seated, Sight, with_part}

-- a kept core state, which backs what the taker knows, has this value in the slot
pub record Finds (settings : Configuration) (v : Sight) (i : ℕ) (x : Slot) : Type 0 where
  pub core : State
  pub held : Held settings core
  pub backs : Backs at Fits Own core v
  pub value : at core i ≡ x

-- a taker of a page or of the board changes nothing in what it knows, whether it takes or fails
abbrev pub see_none : Slot → Mine → Mine
see_none x m = m

abbrev pub miss_none : ℕ → Mine → Mine
miss_none found m = m

abbrev pub missed_none : Sight → ℕ → ℕ → Type 0
missed_none v i found = Unit {0}

-- the record of one who has taken a shard, and of one who has given it back
abbrev pub claimed : ℕ → Actor → Actor
claimed k r = record r { shard = Some k; tried = k; found = None; reserved_here = false }

abbrev pub released : Actor → Actor
released r = record r { shard = None; reserved_here = false }

-- the taker of a shard has claimed it
abbrev pub see_shard : ℕ → Slot → Mine → Mine
see_shard k x m = with_part (claimed k m.part) m

-- a try of a shard that failed notes the shard and its holder, which is another actor
abbrev pub missing : ℕ → ℕ → Actor → Actor
missing k found r = record r { tried = k; found = Some (found - 1) }

abbrev pub miss_shard_at : ℕ → ℕ → Mine → Mine
miss_shard_at k found m = with_part (missing k found m.part) m

abbrev pub missed_shard_at : Sight → ℕ → ℕ → Type 0
missed_shard_at v i found = (found - 1 ≢ v.actor) × (found - 1 < 4294967295)

-- the slot is no shard's
abbrev pub IsPlain : ℕ → Type 0
IsPlain i = (c : State) (word : ℕ) → Marks c i word

-- the seat after it took the slot i, with the value x moved out of it
abbrev pub took : (Slot → Mine → Mine) → Seated → ℕ → Slot → Seated
took f me i x = (with_out f me.0 i x, (i, Vacant) ∷ me.1)

-- the same, of a holder by number
abbrev pub noting_holder : ℕ → ℕ → Mine → Mine
noting_holder k by m = with_part (record m.part { tried = k; found = Some by }) m

abbrev pub IsBoard : Slot → Type 0
IsBoard x = (b : BoardState) × (x ≡ OfBoard b)

abbrev pub IsShard : Slot → Type 0
IsShard x = (rows : Rows) × (x ≡ OfShard rows)

abbrev pub IsPage : Slot → Type 0
IsPage x = (n : Node) × (x ≡ OfPage n)
