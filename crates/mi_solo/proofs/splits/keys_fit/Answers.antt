use Rattle.mi_solo.proofs.KeyLemmas.{claim_fits, delete_fits, gathered_copied, insert_fits, split_above}
use Rattle.mi_solo.proofs.splits.keys_fit.Goals as goal

pub returns-clause-claim : goal.returns-clause-claim
returns-clause-claim c = claim_fits

pub returns-clause-insert : goal.returns-clause-insert
returns-clause-insert c = insert_fits

pub returns-clause-delete : goal.returns-clause-delete
returns-clause-delete c = delete_fits

pub returns-clause-above : goal.returns-clause-above
returns-clause-above c = split_above

pub returns-clause-copied : goal.returns-clause-copied
returns-clause-copied c = gathered_copied
