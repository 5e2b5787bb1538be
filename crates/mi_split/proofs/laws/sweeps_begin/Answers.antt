use Rattle.mi_split.proofs.OthersLemmas.{sweep_begins}
use Rattle.mi_split.proofs.laws.sweeps_begin.Goals as goal

pub returns : goal.returns
returns c = sweep_begins
