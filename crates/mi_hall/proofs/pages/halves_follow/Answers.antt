use Rattle.mi_hall.proofs.PagePlaces.{parts_seated, roomy_seated, roomy_trim_seated}
use Rattle.mi_hall.proofs.pages.halves_follow.Goals as goal

pub returns-clause-parted : goal.returns-clause-parted
returns-clause-parted c = parts_seated

pub returns-clause-roomy : goal.returns-clause-roomy
returns-clause-roomy c = roomy_seated

pub returns-clause-trimmed : goal.returns-clause-trimmed
returns-clause-trimmed c = roomy_trim_seated
