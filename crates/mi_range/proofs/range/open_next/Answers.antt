use Rattle.std.proofs.Common.{refl, sym, subst}
use Rattle.mi_key.specs.declared.ranges.Interval.{Interval}
use Rattle.mi_range.specs.Leaves.{IsOpened}
use Rattle.mi_range.proofs.range.open_next.Goals as goal

pub returns-in-Some : goal.returns-in-Some
returns-in-Some c =
    let work = c.args.work.now in
    let catalog = c.args.catalog.now in
    let opened = subst (λ (i : Interval). IsOpened work.dists work.radius catalog.levels catalog.leaves c.in-Some.next.place i) (sym c.new.ensures.range) c.in-Some.ensures.1 in
    (c.in-Some.ensures.0, opened, c.new.ensures.page, refl, refl, refl)

pub returns-in-None : goal.returns-in-None
returns-in-None c = (c.in-None.ensures, refl, refl)
