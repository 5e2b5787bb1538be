use Rattle.std.proofs.Common.{ap, sym}
use Rattle.mi_core.specs.Events.{copied_of}
use Rattle.mi_solo.specs.States.{split_of}
use Rattle.mi_solo.proofs.leaf_rows.copied.Goals as goal

pub returns-in-Some : goal.returns-in-Some
returns-in-Some c = ap (λ o. copied_of (split_of o)) (sym c.in-Some.is)

pub returns-in-None : goal.returns-in-None
returns-in-None c = ap (λ o. copied_of (split_of o)) (sym c.in-None.is)
