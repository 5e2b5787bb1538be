use Rattle.std.proofs.Common.{get_or, sym, subst, List}
use Rattle.mi_latch.specs.declared.slots.Slot.{Slot}
use Rattle.mi_latch.specs.declared.slots.Slot.TheVariants.{Vacant}
use Rattle.mi_latch.specs.Ends.{Leaves}
use Rattle.mi_latch.proofs.Parting.{left}
use Rattle.mi_latch.proofs.table.LatchTable.close.Goals as goal

pub returns-clause-leaves : goal.returns-clause-leaves
returns-clause-leaves c = let l = c.requires.last in let f = c.close_with.ensures.values in
    subst (λ (xs : List Slot). Leaves c.args.self.table.shared.key (λ i. get_or xs i Vacant) c.args.seat.me.0) (sym c.take_all.ensures) (left c.args.self.table.shared.key _ _ c.args.seat.id c.args.seat.me.0 l.0 l.1 l.2 l.3 f.2)
