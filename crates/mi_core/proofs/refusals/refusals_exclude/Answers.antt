use Rattle.mi_core.proofs.RefusalLemmas.{crowded_insert, full_allot, full_delete, full_insert, full_reserve, grown_grow, held_claim}
use Rattle.mi_core.proofs.refusals.refusals_exclude.Goals as goal

pub returns-clause-reserve : goal.returns-clause-reserve
returns-clause-reserve c = full_reserve

pub returns-clause-insert : goal.returns-clause-insert
returns-clause-insert c = full_insert

pub returns-clause-delete : goal.returns-clause-delete
returns-clause-delete c = full_delete

pub returns-clause-crowded : goal.returns-clause-crowded
returns-clause-crowded c = crowded_insert

pub returns-clause-allot : goal.returns-clause-allot
returns-clause-allot c = full_allot

pub returns-clause-claim : goal.returns-clause-claim
returns-clause-claim c = held_claim

pub returns-clause-grow : goal.returns-clause-grow
returns-clause-grow c = grown_grow
