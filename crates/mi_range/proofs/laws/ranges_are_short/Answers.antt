use Rattle.mi_range.proofs.OthersLemmas.{few_sections}
use Rattle.mi_range.proofs.laws.ranges_are_short.Goals as goal

pub returns : goal.returns
returns c = few_sections
