use Rattle.std.proofs.Common.{◌∙◌}
use Rattle.mi_hall.proofs.PassLemmas.{hand_shown}
use Rattle.mi_hall.proofs.passes.Pass.fresh.Goals as goal

pub returns : goal.returns
returns c = c.has_fresh.ensures ∙ hand_shown _ _ _ _ _ _ _ c.self.invariant.0 c.self.view_is
