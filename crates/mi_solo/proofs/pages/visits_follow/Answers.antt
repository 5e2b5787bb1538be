use Rattle.mi_solo.proofs.ReaderLemmas.{offers_page, pin_counts, measured_page}
use Rattle.mi_solo.proofs.VisitEvents.{visits_page}
use Rattle.mi_solo.proofs.pages.visits_follow.Goals as goal

pub returns-clause-told : goal.returns-clause-told
returns-clause-told c = visits_page

pub returns-clause-offered : goal.returns-clause-offered
returns-clause-offered c = offers_page

pub returns-clause-pin : goal.returns-clause-pin
returns-clause-pin c = pin_counts

pub returns-clause-measured : goal.returns-clause-measured
returns-clause-measured c = measured_page
