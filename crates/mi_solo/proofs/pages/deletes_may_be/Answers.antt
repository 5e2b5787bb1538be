use Rattle.mi_solo.proofs.CanLemmas.{can_delete, delete_board, delete_commits, delete_living}
use Rattle.mi_solo.proofs.pages.deletes_may_be.Goals as goal

pub returns-clause-commits : goal.returns-clause-commits
returns-clause-commits c = delete_commits

pub returns-clause-board : goal.returns-clause-board
returns-clause-board c = delete_board

pub returns-clause-event : goal.returns-clause-event
returns-clause-event c = can_delete

pub returns-clause-living : goal.returns-clause-living
returns-clause-living c = delete_living
