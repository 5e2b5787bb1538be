use Rattle.mi_nearest.proofs.PlaceLemmas.{cells_ascend}
use Rattle.mi_nearest.proofs.laws.places_ascend.Goals as goal

pub returns : goal.returns
returns c = cells_ascend
