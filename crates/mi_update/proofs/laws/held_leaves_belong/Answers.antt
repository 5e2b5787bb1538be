use Rattle.mi_update.proofs.FinishLemmas.{delete_belongs, insert_belongs}
use Rattle.mi_update.proofs.laws.held_leaves_belong.Goals as goal

pub returns-clause-insert : goal.returns-clause-insert
returns-clause-insert c = insert_belongs

pub returns-clause-delete : goal.returns-clause-delete
returns-clause-delete c = delete_belongs
