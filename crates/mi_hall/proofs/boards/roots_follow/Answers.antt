use Rattle.mi_hall.proofs.BoardPlaces.{grows_seated, stays_seated}
use Rattle.mi_hall.proofs.boards.roots_follow.Goals as goal

pub returns-clause-grown : goal.returns-clause-grown
returns-clause-grown c = grows_seated

pub returns-clause-same : goal.returns-clause-same
returns-clause-same c = stays_seated
