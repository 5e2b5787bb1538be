use Rattle.mi_solo.proofs.BoardEvents.{looks}
use Rattle.mi_solo.proofs.boards.looks_follow.Goals as goal

pub returns : goal.returns
returns c = looks
