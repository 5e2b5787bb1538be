use Rattle.mi_hall.proofs.BoardPlaces.{pins_seated, pins_none_seated, unpins_seated}
use Rattle.mi_hall.proofs.boards.pins_follow.Goals as goal

pub returns-clause-ok : goal.returns-clause-ok
returns-clause-ok c = pins_seated

pub returns-clause-memory : goal.returns-clause-memory
returns-clause-memory c = pins_none_seated

pub returns-clause-ended : goal.returns-clause-ended
returns-clause-ended c = unpins_seated
