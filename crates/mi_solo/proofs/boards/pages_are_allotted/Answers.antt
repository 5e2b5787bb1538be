use Rattle.mi_solo.proofs.BoardEvents.{allots, allots_full, allots_none}
use Rattle.mi_solo.proofs.boards.pages_are_allotted.Goals as goal

pub returns-clause-ok : goal.returns-clause-ok
returns-clause-ok c = allots

pub returns-clause-full : goal.returns-clause-full
returns-clause-full c = allots_full

pub returns-clause-memory : goal.returns-clause-memory
returns-clause-memory c = allots_none
