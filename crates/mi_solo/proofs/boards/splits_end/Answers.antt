use Rattle.mi_solo.proofs.WorkEvents.{publishes, publishes_none, gives_up}
use Rattle.mi_solo.proofs.boards.splits_end.Goals as goal

pub returns-clause-published : goal.returns-clause-published
returns-clause-published c = publishes

pub returns-clause-memory : goal.returns-clause-memory
returns-clause-memory c = publishes_none

pub returns-clause-given_up : goal.returns-clause-given_up
returns-clause-given_up c = gives_up
