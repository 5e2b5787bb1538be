use Rattle.mi_hall.proofs.SeatConditions.{named_seated, low_seated, leaf_page_seated}
use Rattle.mi_hall.proofs.seats.pages_are_known.Goals as goal

pub returns-clause-named : goal.returns-clause-named
returns-clause-named c = named_seated

pub returns-clause-low : goal.returns-clause-low
returns-clause-low c = low_seated

pub returns-clause-leaf : goal.returns-clause-leaf
returns-clause-leaf c = leaf_page_seated
