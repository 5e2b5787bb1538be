use Rattle.mi_hall.proofs.PagePlaces.{trims_seated}
use Rattle.mi_hall.proofs.pages.trims_follow.Goals as goal

pub returns : goal.returns
returns c = trims_seated
