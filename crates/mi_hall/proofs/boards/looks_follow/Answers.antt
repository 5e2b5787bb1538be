use Rattle.mi_hall.proofs.BoardPlaces.{looks_seated}
use Rattle.mi_hall.proofs.boards.looks_follow.Goals as goal

pub returns : goal.returns
returns c = looks_seated
