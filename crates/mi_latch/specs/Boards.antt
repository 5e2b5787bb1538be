-- Sections of the board: what is given back, and what the seat knows then.
use Rattle.std.specs.Prelude.{◌≡◌, ◌≤◌, ◌⊎◌, ℕ, List, [], ◌∷◌, ◌++◌, Bool, true, Option, Some, length}
use Rattle.mi_base.specs.History.{events_at}
use Rattle.mi_board.specs.Boards.{BoardState}
use Rattle.mi_entries.specs.Actors.{Actor, Pin}
use Rattle.mi_core.specs.Events.{Can, Event, after}
use Rattle.mi_core.specs.Kept.{Kept}
use Rattle.mi_core.specs.Named.{IsNamed, Named}
use Rattle.mi_core.specs.State.{State, put_actor, put_board}
use Rattle.mi_latch.specs.Wanting.{leaf_wanted}
use Rattle.mi_latch.specs.Views.{Fits, IsOne, Mine}

-- what a section of the board tells beside its actor's record: whether all pages are allotted, the pages that it names, and the high key and
-- the number of items of the page noted
pub record Telling : Type 0 where
  pub told : Bool
  pub names : List Named
  pub high : Option ℕ
  pub items : ℕ

-- what was known is known still, and no page is named or noted
abbrev pub telling_same : Mine → Telling
telling_same m = record { told = m.told; names = []; high = m.note.high; items = m.note.items }

-- a board names the root
abbrev pub root_of : BoardState → List Named
root_of b = record { page = b.root; level = b.height; low = 0 } ∷ []

-- what the seat knows after it: it has seen the whole log of the board that it gives back, and whether the leaf that it claims then is to be
-- split
abbrev pub seeing : Actor → BoardState → Telling → Mine → Mine
seeing r b t m = record {
  part = r;
  log = b.log;
  named = t.names ++ m.named;
  told = t.told;
  wanted = leaf_wanted b.settings b.log r.claim;
  least = b.height;
  count = length b.actors;
  note = record { board = b; high = t.high; items = t.items };
}

-- what a section of the board tells is so; `was` is the board that it took, and `board` the one that it gives back, after which its actor has the record `to`
pub record IsTold (a : ℕ) (m : Mine) (was board : BoardState) (to : Actor) (t : Telling) : Type 0 where
  pub told : (c : State) → Kept c → Fits c a m → c.board ≡ was → t.told ≡ true → board.allotted ≡ board.settings.pages
  pub named : (c : State) → Kept c → Fits c a m → c.board ≡ was → (x : Named) → IsOne x t.names → IsNamed c.pages x
  pub seen : to.seen ≡ length board.log
  -- its pin is as it was, or at a position that it has seen
  pub pin : (to.pin ≡ m.part.pin) ⊎ ((p : Pin) → to.pin ≡ Some p → events_at p.at ≤ to.seen)
  pub going : to.ended ≡ m.part.ended

-- With the board in hand, an event makes this board of it and this record of its actor's; nothing else is written
pub record MakesBoard (a : ℕ) (m : Mine) (was board : BoardState) (to : Actor) (t : Telling) (e : Event) : Type 0 where
  pub does : (c : State) → Kept c → Fits c a m → c.board ≡ was → Can c a m.part e × (after c a m.part e ≡ put_actor a to (put_board board c))
  pub tells : IsTold a m was board to t
