use Rattle.mi_split.proofs.BoundLemmas.{sweep_small}
use Rattle.mi_split.proofs.laws.sweeps_end.Goals as goal

pub returns : goal.returns
returns c = sweep_small
