-- What calls of a hand do.
use Rattle.std.specs.Prelude.{◌≡◌, ◌<◌, ◌+◌, Some, Result, Ok, Err}
use Rattle.mi_board.specs.Boards.{BoardState}
use Rattle.mi_tree.specs.declared.answers.AllotRefusal.{AllotRefusal}
use Rattle.mi_tree.specs.declared.answers.AllotRefusal.TheVariants.{PagesFull, Memory}
use Rattle.mi_solo.specs.InHand.{InHand}

-- the board's next page is taken in hand, or all are allotted, or memory is wanted
abbrev pub TakesPage : BoardState → InHand → Result (Unit {0}) AllotRefusal → BoardState → InHand → Type 0
TakesPage board hand (Ok _) new held =
    (board.allotted < board.settings.pages) × (new ≡ record board { allotted = board.allotted + 1 }) × (held ≡ record hand { fresh = Some board.allotted })
TakesPage board hand (Err (PagesFull limit)) new held = (limit ≡ board.settings.pages) × (board.allotted ≡ limit) × (new ≡ board) × (held ≡ hand)
TakesPage board hand (Err Memory) new held = (new ≡ board) × (held ≡ hand)
