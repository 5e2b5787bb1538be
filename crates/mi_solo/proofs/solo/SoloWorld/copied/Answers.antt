use Rattle.std.proofs.Common.{◌∙◌, ap}
use Rattle.mi_world.specs.Splits.{copied_in}
use Rattle.mi_solo.specs.Solos.{SoloState, view_of}
use Rattle.mi_solo.proofs.solo.SoloWorld.copied.Goals as goal

pub returns : goal.returns
returns c = c.copied.ensures ∙ ap (λ (t : SoloState). copied_in (view_of t)) c.self.view_is
