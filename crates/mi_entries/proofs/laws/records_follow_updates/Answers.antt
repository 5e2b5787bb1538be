use Rattle.mi_entries.proofs.RecordLemmas.{records_delete, records_insert}
use Rattle.mi_entries.proofs.laws.records_follow_updates.Goals as goal

pub returns-clause-insert : goal.returns-clause-insert
returns-clause-insert c = records_insert

pub returns-clause-delete : goal.returns-clause-delete
returns-clause-delete c = records_delete
