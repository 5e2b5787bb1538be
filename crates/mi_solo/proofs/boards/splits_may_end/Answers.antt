use Rattle.mi_solo.proofs.GatheredLemmas.{may_publish, may_publish_all, may_give_up}
use Rattle.mi_solo.proofs.boards.splits_may_end.Goals as goal

pub returns-clause-published : goal.returns-clause-published
returns-clause-published c = may_publish

pub returns-clause-board : goal.returns-clause-board
returns-clause-board c = may_publish_all

pub returns-clause-given_up : goal.returns-clause-given_up
returns-clause-given_up c = may_give_up
