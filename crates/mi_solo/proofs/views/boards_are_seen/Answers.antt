use Rattle.mi_solo.proofs.BoardLemmas.{sees_board}
use Rattle.mi_solo.proofs.views.boards_are_seen.Goals as goal

pub returns : goal.returns
returns c = sees_board
