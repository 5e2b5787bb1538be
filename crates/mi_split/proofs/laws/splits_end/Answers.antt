use Rattle.mi_split.proofs.BoundLemmas.{split_small}
use Rattle.mi_split.proofs.laws.splits_end.Goals as goal

pub returns : goal.returns
returns c = split_small
