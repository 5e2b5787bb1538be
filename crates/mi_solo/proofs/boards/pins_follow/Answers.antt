use Rattle.mi_solo.proofs.BoardEvents.{pins, pins_none, unpins}
use Rattle.mi_solo.proofs.boards.pins_follow.Goals as goal

pub returns-clause-ok : goal.returns-clause-ok
returns-clause-ok c = pins

pub returns-clause-memory : goal.returns-clause-memory
returns-clause-memory c = pins_none

pub returns-clause-ended : goal.returns-clause-ended
returns-clause-ended c = unpins
