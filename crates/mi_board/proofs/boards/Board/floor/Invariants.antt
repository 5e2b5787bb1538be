use Rattle.std.proofs.Common.{◌≡◌, ◌≤◌, drop, length}
use Rattle.mi_base.specs.History.{end_of}
use Rattle.mi_board.specs.Floors.{least_pin}
use Rattle.mi_board.proofs.boards.Board.floor.Given as goal

-- the least pin of the actors from this place on
abbrev pub invariant-loop-place : goal.invariant-loop-place
invariant-loop-place l = record {
  within : l.place ≤ length l.self.actors;
  least : l.floor ≡ least_pin (end_of l.self.log) (drop l.place l.self.actors);
}

abbrev pub decreases-loop-place : goal.decreases-loop-place
decreases-loop-place l = l.place
