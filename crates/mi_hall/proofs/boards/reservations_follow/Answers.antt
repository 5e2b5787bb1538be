use Rattle.mi_hall.proofs.BoardPlaces.{reserves_seated, reserves_full_seated, reserves_none_seated}
use Rattle.mi_hall.proofs.boards.reservations_follow.Goals as goal

pub returns-clause-ok : goal.returns-clause-ok
returns-clause-ok c = reserves_seated

pub returns-clause-full : goal.returns-clause-full
returns-clause-full c = reserves_full_seated

pub returns-clause-memory : goal.returns-clause-memory
returns-clause-memory c = reserves_none_seated
