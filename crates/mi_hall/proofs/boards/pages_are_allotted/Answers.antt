use Rattle.mi_hall.proofs.BoardPlaces.{allots_seated, allots_full_seated, allots_none_seated}
use Rattle.mi_hall.proofs.boards.pages_are_allotted.Goals as goal

pub returns-clause-ok : goal.returns-clause-ok
returns-clause-ok c = allots_seated

pub returns-clause-full : goal.returns-clause-full
returns-clause-full c = allots_full_seated

pub returns-clause-memory : goal.returns-clause-memory
returns-clause-memory c = allots_none_seated
