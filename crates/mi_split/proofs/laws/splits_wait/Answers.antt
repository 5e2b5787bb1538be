use Rattle.mi_split.proofs.OthersLemmas.{split_stays}
use Rattle.mi_split.proofs.laws.splits_wait.Goals as goal

pub returns : goal.returns
returns c = split_stays
