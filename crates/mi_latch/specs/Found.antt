-- What the take of the board found, and what a section of the board may tell.
use Rattle.std.specs.Prelude.{◌≡◌, ◌⊎◌, ℕ, List, true, false}
use Rattle.mi_base.specs.Configuration.{Configuration}
use Rattle.mi_board.specs.Boards.{BoardState}
use Rattle.mi_core.specs.Kept.{Kept}
use Rattle.mi_core.specs.Named.{IsNamed, Named}
use Rattle.mi_core.specs.State.{State}
use Rattle.mi_latch.specs.declared.slots.Slot.{Slot}
use Rattle.mi_latch.specs.Boards.{Telling}
use Rattle.mi_latch.specs.Layout.{at}
use Rattle.mi_latch.specs.Shows.{Has}
use Rattle.mi_latch.specs.Views.{Fits, Held, IsOne, Mine}

-- a kept core state with this board and with the other values that are out with the seat, whose actor hasn't ended and which fits it
pub record FoundBoard (settings : Configuration) (a : ℕ) (m : Mine) (out : List (ℕ × Slot)) (was : BoardState) : Type 0 where
  pub core : State
  pub held : Held settings core
  pub fits : Fits core a m
  pub board : core.board ≡ was
  pub values : (i : ℕ) (x : Slot) → Has out i x → at core i ≡ x
  pub going : m.part.ended ≡ false

-- That all pages are allotted was told, or the board that is given back has it so. The pages that are named are linked in each state that
-- the seat may be in
pub record MayTell (a : ℕ) (m : Mine) (was board : BoardState) (t : Telling) : Type 0 where
  pub told : t.told ≡ true → (m.told ≡ true) ⊎ (board.allotted ≡ board.settings.pages)
  pub named : (c : State) → Kept c → Fits c a m → c.board ≡ was → (x : Named) → IsOne x t.names → IsNamed c.pages x
