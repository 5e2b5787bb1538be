use Rattle.mi_settle.proofs.SettlingLemmas.{settled_core}
use Rattle.mi_settle.proofs.settled.trimmed_cores_are_settled.Goals as goal

pub returns : goal.returns
returns c = settled_core
