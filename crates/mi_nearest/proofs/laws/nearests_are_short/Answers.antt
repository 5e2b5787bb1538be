use Rattle.mi_nearest.proofs.OthersLemmas.{few_sections}
use Rattle.mi_nearest.proofs.laws.nearests_are_short.Goals as goal

pub returns : goal.returns
returns c = few_sections
