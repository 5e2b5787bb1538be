use Rattle.std.proofs.Common.{◌∙◌, ap, is_some}
use Rattle.mi_solo.specs.Solos.{SoloState, view_of}
use Rattle.mi_solo.proofs.solo.SoloWorld.fresh.Goals as goal

pub returns : goal.returns
returns c = c.fresh.ensures ∙ ap (λ (t : SoloState). is_some (view_of t).fresh) c.self.view_is
