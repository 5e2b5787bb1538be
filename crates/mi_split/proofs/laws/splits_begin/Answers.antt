use Rattle.mi_split.proofs.OthersLemmas.{split_begins}
use Rattle.mi_split.proofs.laws.splits_begin.Goals as goal

pub returns : goal.returns
returns c = split_begins
