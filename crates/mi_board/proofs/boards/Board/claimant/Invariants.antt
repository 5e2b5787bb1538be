use Rattle.std.proofs.Common.{◌≡◌, take, false}
use Rattle.mi_board.specs.Actors.{is_claimed}
use Rattle.mi_board.proofs.boards.Board.claimant.Given as goal

abbrev pub invariant-loop-actor : goal.invariant-loop-actor
invariant-loop-actor l = (is_claimed l.prefix (take l.actor l.state-items) ≡ false) × (l.state-items ≡ l.self.actors)
