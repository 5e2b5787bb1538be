use Rattle.mi_solo.proofs.BoardEvents.{reserves, reserves_full, reserves_none}
use Rattle.mi_solo.proofs.boards.reservations_follow.Goals as goal

pub returns-clause-ok : goal.returns-clause-ok
returns-clause-ok c = reserves

pub returns-clause-full : goal.returns-clause-full
returns-clause-full c = reserves_full

pub returns-clause-memory : goal.returns-clause-memory
returns-clause-memory c = reserves_none
