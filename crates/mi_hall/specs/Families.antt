-- The board that a seat has out, and what a section that sees it makes of its view.
use Rattle.std.specs.Prelude.{◌≡◌, ℕ, List, [], ◌∷◌}
use Rattle.mi_board.specs.Boards.{BoardState, opened_board}
use Rattle.mi_latch.specs.declared.slots.Slot.{Slot}
use Rattle.mi_latch.specs.declared.slots.Slot.TheVariants.{OfBoard, OfPage, OfShard, Vacant}
use Rattle.mi_latch.specs.Views.{no_settings}
use Rattle.mi_world.specs.View.{Later, SameOwn, SamePage, SameTry, SeesBoard, View}

-- the board in a slot
abbrev pub board_in : Slot → BoardState
board_in (OfBoard b) = b
board_in (OfShard rows) = opened_board no_settings []
board_in (OfPage n) = opened_board no_settings []
board_in Vacant = opened_board no_settings []

-- the board that was taken last
abbrev pub board_out : List (ℕ × Slot) → BoardState
board_out [] = opened_board no_settings []
board_out (x ∷ out) = board_in x.1

-- a section sees the whole log, and nothing of its actor's own changes
pub record Sees (old new : View) : Type 0 where
  pub later : Later old new
  pub lacked : new.lacked ≡ old.lacked
  pub told : new.told ≡ old.told
  pub same : SameOwn old new
  pub floor : new.floor ≡ old.floor
  pub board : SeesBoard new
  pub page : SamePage old new
  pub tries : SameTry old new
