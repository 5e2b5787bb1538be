use Rattle.std.proofs.Common.{◌∙◌, ap}
use Rattle.mi_world.specs.Splits.{gathered_in}
use Rattle.mi_solo.specs.Solos.{SoloState, view_of}
use Rattle.mi_solo.proofs.solo.SoloWorld.gathered.Goals as goal

pub returns : goal.returns
returns c = c.gathered.ensures ∙ ap (λ (t : SoloState). gathered_in (view_of t)) c.self.view_is
