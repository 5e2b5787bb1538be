use Rattle.std.proofs.Common.{subst}
use Rattle.mi_solo.specs.Solos.{MayTurn, SoloState}
use Rattle.mi_solo.proofs.SoloLemmas.{may_turn}
use Rattle.mi_solo.proofs.solo.Solo.log.Goals as goal

pub returns-clause-turn : goal.returns-clause-turn
returns-clause-turn c = subst (λ (t : SoloState). MayTurn t.state t.turn) c.self.view_is (may_turn c.self.inside.core c.self.inside.turn c.self.invariant.1)
