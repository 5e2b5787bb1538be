use Rattle.mi_core.proofs.StraightLemmas.{child_straight, root_straight}
use Rattle.mi_core.proofs.pages.paths_go_straight.Goals as goal

pub returns-clause-root : goal.returns-clause-root
returns-clause-root c = λ s k linked. root_straight s k.sound linked

pub returns-clause-child : goal.returns-clause-child
returns-clause-child c = λ s k linked. child_straight s k.sound linked
