use Rattle.std.proofs.Common.{subst}
use Rattle.mi_base.specs.Configuration.{IsWithinLimits}
use Rattle.mi_hall.proofs.places.has_page.Goals as goal

pub returns : goal.returns
returns c = (subst IsWithinLimits c.settings.view_is c.settings.invariant).pages.0
