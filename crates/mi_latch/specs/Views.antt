-- What a seat knows, and when a core state fits it.
use Rattle.std.specs.Prelude.{◌≡◌, ◌≤◌, ◌<◌, ◌⊎◌, Bool, true, false, ℕ, ◌+◌, List, [], ◌∷◌, Option, Some, None, length, take, slice_get}
use Rattle.atomic_table.specs.Table.{State as Table, Me, rest}
use Rattle.mi_base.specs.declared.records.LogEvent.{LogEvent}
use Rattle.mi_base.specs.Configuration.{Configuration}
use Rattle.mi_base.specs.History.{events_at}
use Rattle.mi_base.specs.declared.settings.MetricKind.TheVariants.{L1}
use Rattle.mi_board.specs.Actors.{idle}
use Rattle.mi_board.specs.Boards.{BoardState, is_passed, opened_board}
use Rattle.mi_entries.specs.Actors.{Actor, Pin}
use Rattle.mi_entries.specs.Records.{shard_at}
use Rattle.mi_core.specs.Events.{Leads, first_actor}
use Rattle.mi_core.specs.Kept.{Kept}
use Rattle.mi_core.specs.Named.{IsNamed, Named}
use Rattle.mi_core.specs.State.{State}
use Rattle.mi_latch.specs.Wanting.{given_in, leaf_wanted}
use Rattle.mi_latch.specs.declared.known.Known.{Known}
use Rattle.mi_latch.specs.declared.slots.Slot.{Slot}
use Rattle.mi_latch.specs.declared.slots.Slot.TheVariants.{Vacant}
use Rattle.mi_latch.specs.Layout.{at, slot_count}
use Rattle.mi_latch.specs.Shows.{known, Does, Has, HasKey, In, Shows}

-- What a seat has noted: the board as its actor's latest section of the board left it, and the high key and the number of items of the page
-- of its latest section of a page
pub record Note : Type 0 where
  pub board : BoardState
  pub high : Option ℕ
  pub items : ℕ

-- its actor's record, the log that it has seen, the pages that it was told of, whether it was told that all pages are allotted, whether the
-- leaf which it claims is to be split, a level that the root has at least, how many actors it knows were made, and what it has noted
pub record Mine : Type 0 where
  pub part : Actor
  pub log : List LogEvent
  pub named : List Named
  pub told : Bool
  pub wanted : Bool
  pub least : ℕ
  pub count : ℕ
  pub note : Note

abbrev pub Sight : Type 0
Sight = Known Mine Slot

abbrev pub Seated : Type 0
Seated = Me Slot Sight

-- page 0 is the first leaf page
abbrev pub first_page : Named
first_page = record { page = 0; level = 0; low = 0 }

-- the first actor, which knows that page 0 is linked
abbrev pub first_mine : Configuration → Mine
first_mine settings = record {
  part = first_actor;
  log = [];
  named = first_page ∷ [];
  told = false;
  wanted = false;
  least = 0;
  count = 1;
  note = record { board = opened_board settings (idle ∷ []); high = None; items = 0 };
}

abbrev pub newcomer : Configuration → Sight
newcomer settings = known 0 (first_mine settings) [] [] [] []

-- one of a list
abbrev pub IsOne : {X : Type 0} → X → List X → Type 0
IsOne x [] = ⊥
IsOne x (y ∷ ys) = (y ≡ x) ⊎ IsOne x ys

-- a board as it was and as it is later
pub record Follows (old new : BoardState) : Type 0 where
  pub settings : new.settings ≡ old.settings
  pub allotted : old.allotted ≤ new.allotted
  pub given : given_in old ≤ given_in new

-- what it knows is so: it lasts, whatever others do
pub record Knows (c : State) (m : Mine) : Type 0 where
  pub log : m.log ≡ take m.part.seen c.board.log
  pub named : (x : Named) → IsOne x m.named → IsNamed c.pages x
  pub told : m.told ≡ true → c.board.allotted ≡ c.board.settings.pages
  pub wanted : m.wanted ≡ leaf_wanted c.board.settings c.board.log m.part.claim
  pub least : m.least ≤ c.board.height
  pub first : IsOne first_page m.named
  -- what it has pinned it has seen
  pub pin : (p : Pin) → m.part.pin ≡ Some p → events_at p.at ≤ m.part.seen
  pub count : m.count ≤ length c.actors
  pub note : Follows m.note.board c.board
  -- whether the leaf that it claims is passed over, is as it noted: no other actor changes that
  pub passed : (p : List ℕ) → m.part.claim ≡ Some p → is_passed p c.board ≡ is_passed p m.note.board

-- the core state has the actor's record, and what the actor knows is so
pub record Fits (c : State) (a : ℕ) (m : Mine) : Type 0 where
  pub part : slice_get c.actors a ≡ Some m.part
  pub knows : Knows c m

abbrev pub made : State → ℕ
made c = length c.actors

-- an actor that hasn't ended, of a number that an actor may have
pub record IsGoing (a : ℕ) (m : Mine) : Type 0 where
  pub small : a < 4294967295
  pub going : m.part.ended ≡ false

-- its actor, and those that it made, haven't ended; those that were absorbed have. Those that it made are among as many as it knows
pub record Own (v : Sight) : Type 0 where
  pub mine : v.live ≡ true → IsGoing v.actor v.mine
  pub born : (a : ℕ) (m : Mine) → Has v.born a m → IsGoing a m
  pub over : (a : ℕ) (m : Mine) → Has v.absorbed a m → m.part.ended ≡ true
  pub forked : (k : ℕ) → In k v.forked → k < v.mine.count

-- a word is 0 where it is free, else its holder's number and 1
abbrev pub holder_word : Option ℕ → ℕ
holder_word None = 0
holder_word (Some a) = a + 1

-- the word of a shard says who holds it; other words say nothing of the core state
abbrev pub Marks : State → ℕ → ℕ → Type 0
Marks c i word = (k : ℕ) → i ≡ k + 1 → k < 16 → word ≡ holder_word (shard_at c.shards k).holder

-- the core state is kept, and is of these settings
pub record Held (settings : Configuration) (c : State) : Type 0 where
  pub kept : Kept c
  pub same : c.board.settings ≡ settings

-- one event of the actor a leads from c to d, or none
abbrev pub Next : State → ℕ → State → Type 0
Next c a d = Leads c a d ⊎ (d ≡ c)

-- words, values at home and all views show one core state that is kept
abbrev pub Latched : Configuration → Table Slot Sight → Type 0
Latched settings s = Shows at Fits Own Marks made (Held settings) (slot_count settings) s

-- whatever kept core state backs what the seat knows, one event of its actor, or none, at the give of y into the slot i, makes it back w
abbrev pub Doing : Configuration → Sight → Sight → ℕ → Slot → Type 0
Doing settings v w i y = Does at Fits Own Marks made (Held settings) Next v w i y

-- the view with other knowledge, and with other values out
abbrev pub now : Sight → Mine → List (ℕ × Slot) → Sight
now v m out = known v.actor m out v.born v.absorbed v.forked

-- the seat took the slot i last, and the core state has x there
pub record HoldsLast (me : Seated) (i : ℕ) (x : Slot) : Type 0 where
  pub held : me.1 ≡ (i, Vacant) ∷ rest me.1
  pub live : me.0.live ≡ true
  pub out : me.0.out ≡ (i, x) ∷ rest me.0.out
  pub others : HasKey (rest me.0.out) i → ⊥

abbrev pub with_part : Actor → Mine → Mine
with_part r m = record m { part = r }

-- settings for what is never used
abbrev pub no_settings : Configuration
no_settings = record { metric = L1; dims = 1; rows = []; pivots = []; levels = 0; cell = 1; updates = 1; pages = 1 }
