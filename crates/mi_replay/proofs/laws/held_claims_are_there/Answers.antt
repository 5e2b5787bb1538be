use Rattle.mi_replay.proofs.HeldLemmas.{held_there}
use Rattle.mi_replay.proofs.laws.held_claims_are_there.Goals as goal

pub returns : goal.returns
returns c = held_there
