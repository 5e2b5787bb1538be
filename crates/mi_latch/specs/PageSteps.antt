-- Sections of pages: what is given back, and what the seat knows then.
use Rattle.std.specs.Prelude.{◌≡◌, ℕ, ◌+◌, List, [], ◌∷◌, ◌++◌, Some, None}
use Rattle.atomic_table.specs.Table.{rest}
use Rattle.mi_base.specs.Configuration.{Configuration}
use Rattle.mi_page.specs.Nodes.{Node, item_count, middle_key}
use Rattle.mi_entries.specs.Actors.{Actor}
use Rattle.mi_core.specs.Effects.{trim_leaf}
use Rattle.mi_core.specs.Events.{Can, Event, after}
use Rattle.mi_core.specs.Kept.{Kept}
use Rattle.mi_core.specs.Named.{IsNamed, Named}
use Rattle.mi_core.specs.State.{State, node_at, put_actor, put_page}
use Rattle.mi_latch.specs.declared.slots.Slot.{Slot}
use Rattle.mi_latch.specs.declared.slots.Slot.TheVariants.{Vacant, OfPage}
use Rattle.mi_latch.specs.Shows.{HasKey}
use Rattle.mi_latch.specs.Views.{Fits, HoldsLast, IsOne, Mine, Seated}

-- how many items a page has, those not counted that the actor's floor lets be trimmed
abbrev pub items_for : Actor → Node → ℕ
items_for r n = item_count (trim_leaf r.floor.updates n)

-- what the seat knows after a section of a page that it gives back as n: these pages are named, and the page is noted
abbrev pub noting : Actor → List Named → Node → Mine → Mine
noting r names n m = record {
  part = r;
  log = m.log;
  named = names ++ m.named;
  told = m.told;
  wanted = m.wanted;
  least = m.least;
  count = m.count;
  note = record { board = m.note.board; high = n.high; items = items_for r n };
}

-- With a page in hand, an event makes this page of it and this record of its actor's; nothing else is written
pub record MakesPage (settings : Configuration) (a : ℕ) (m : Mine) (page : ℕ) (was new : Node) (to : Actor) (names : List Named) (e : Event) : Type 0 where
  pub does : (c : State) → Kept c → c.board.settings ≡ settings → Fits c a m → node_at c.pages page ≡ Some was → Can c a m.part e × (after c a m.part e ≡ put_actor a to (put_page page new c))
  -- the pages that it names
  pub named : (c : State) → Kept c → Fits c a m → node_at c.pages page ≡ Some was → (x : Named) → IsOne x names → IsNamed c.pages x
  pub seen : to.seen ≡ m.part.seen
  pub claim : to.claim ≡ m.part.claim
  pub pin : to.pin ≡ m.part.pin
  pub going : to.ended ≡ m.part.ended

-- the page and the slot of the fresh page f are out, and others beside them
pub record HoldsFresh (m : Seated) (page f : ℕ) (was : Node) (more : List (ℕ × Slot)) : Type 0 where
  pub last : HoldsLast m (page + 17) (OfPage was)
  pub fresh : m.0.mine.part.fresh ≡ Some f
  pub fresh_out : rest m.0.out ≡ (f + 17, Vacant) ∷ more
  pub apart : HasKey more (f + 17) → ⊥

-- the record of one who halved a page
abbrev pub halving : Actor → ℕ → ℕ → Node → Actor
halving r page f n = record r { page = page; fresh = None; owed = r.owed ++ record { level = n.level + 1; key = middle_key n; child = f } ∷ [] }

-- the fresh page is named then
abbrev pub halves_named : ℕ → Node → List Named
halves_named f n = record { page = f; level = n.level; low = middle_key n } ∷ []
