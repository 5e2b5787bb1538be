use Rattle.mi_hall.proofs.PagePlaces.{visits_seated, offers_seated}
use Rattle.mi_hall.proofs.pages.visits_follow.Goals as goal

pub returns-clause-told : goal.returns-clause-told
returns-clause-told c = visits_seated

pub returns-clause-offered : goal.returns-clause-offered
returns-clause-offered c = offers_seated
