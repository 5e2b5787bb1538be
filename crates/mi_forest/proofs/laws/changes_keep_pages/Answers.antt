use Rattle.mi_forest.proofs.EventLemmas.{put_event, filter_event, remove_event, death_event}
use Rattle.mi_forest.proofs.laws.changes_keep_pages.Goals as goal

pub returns-clause-put : goal.returns-clause-put
returns-clause-put c = put_event

pub returns-clause-kept : goal.returns-clause-kept
returns-clause-kept c = filter_event

pub returns-clause-removed : goal.returns-clause-removed
returns-clause-removed c = remove_event

pub returns-clause-marked : goal.returns-clause-marked
returns-clause-marked c = death_event
