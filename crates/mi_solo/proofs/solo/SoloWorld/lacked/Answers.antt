use Rattle.std.proofs.Common.{◌∙◌, ap}
use Rattle.mi_solo.specs.Solos.{SoloState, view_of}
use Rattle.mi_solo.proofs.solo.SoloWorld.lacked.Goals as goal

pub returns : goal.returns
returns c = c.lacked.ensures ∙ ap (λ (t : SoloState). (view_of t).lacked) c.self.view_is
