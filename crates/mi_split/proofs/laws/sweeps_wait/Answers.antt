use Rattle.mi_split.proofs.OthersLemmas.{sweep_stays}
use Rattle.mi_split.proofs.laws.sweeps_wait.Goals as goal

pub returns : goal.returns
returns c = sweep_stays
