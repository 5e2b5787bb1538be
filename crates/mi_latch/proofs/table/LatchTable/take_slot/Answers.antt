use Rattle.std.proofs.Common.{subst}
use Rattle.mi_latch.specs.Views.{Seated}
use Rattle.mi_latch.specs.Takes.{Finds}
use Rattle.mi_latch.proofs.table.LatchTable.take_slot.Goals as goal

pub returns-in-Some-try_open-clause-told : goal.returns-in-Some-try_open-clause-told
returns-in-Some-try_open-clause-told g c = subst (λ (m : Seated). Finds _ m.0 c.args.slot c.in-Some-try_open.value) c.loop.invariant.same c.in-Some-try_open.ensures.took.1
