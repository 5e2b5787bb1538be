use Rattle.std.proofs.Common.{◌≡◌, take, None}
use Rattle.std.specs.List.{find}
use Rattle.mi_board.specs.Boards.{is_open}
use Rattle.mi_tree.specs.Legal.{cells_of}
use Rattle.mi_board.proofs.boards.Board.next_split.Given as goal

-- no leaf so far is open
abbrev pub invariant-loop-place : goal.invariant-loop-place
invariant-loop-place l = find (is_open l.self) (take l.place (cells_of l.self.settings l.self.log)) ≡ None
