use Rattle.mi_hall.proofs.BoardPlaces.{publishes_seated, publishes_none_seated, gives_up_seated}
use Rattle.mi_hall.proofs.boards.splits_end.Goals as goal

pub returns-clause-published : goal.returns-clause-published
returns-clause-published c = publishes_seated

pub returns-clause-memory : goal.returns-clause-memory
returns-clause-memory c = publishes_none_seated

pub returns-clause-given_up : goal.returns-clause-given_up
returns-clause-given_up c = gives_up_seated
