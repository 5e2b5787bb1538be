use Rattle.std.proofs.Common.{arith}
use Rattle.mi_choose.proofs.CoverLemmas.{first_greatest}
use Rattle.mi_choose.proofs.distances.farthest_of.Goals as goal

pub returns : goal.returns
returns c =
    let ds = c.args.distances.now in
    let inv = c.loop-place.invariant in
    let f = first_greatest ds c.loop-place.first.distance c.loop-place.first.place (λ k h. inv.most k (omega arith)) inv.before inv.there inv.none (λ h. omega (arith, inv.within h)) in
    record { distance = f.0; place = f.1 }
