use Rattle.mi_solo.proofs.CanLemmas.{can_insert, insert_absent, insert_board, insert_commits}
use Rattle.mi_solo.proofs.pages.inserts_may_be.Goals as goal

pub returns-clause-commits : goal.returns-clause-commits
returns-clause-commits c = insert_commits

pub returns-clause-board : goal.returns-clause-board
returns-clause-board c = insert_board

pub returns-clause-event : goal.returns-clause-event
returns-clause-event c = can_insert

pub returns-clause-absent : goal.returns-clause-absent
returns-clause-absent c = insert_absent
