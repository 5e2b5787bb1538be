use Rattle.std.proofs.Common.{refl}
use Rattle.mi_core.proofs.ReachLemmas.{reached_kept}
use Rattle.mi_core.proofs.TryLemmas.{came_and_went, s6}
use Rattle.mi_core.proofs.laws.reached_states_are_kept.Goals as goal

pub returns-clause-kept : goal.returns-clause-kept
returns-clause-kept c = reached_kept

pub returns-clause-some : goal.returns-clause-some
returns-clause-some c = (s6, came_and_went, refl)
