use Rattle.std.proofs.Common.{ap, ◌∙◌, ◌&&◌, nat_le}
use Rattle.mi_key.specs.Keys.{key_of}
use Rattle.mi_key.proofs.KeyLemmas.{made_of, between-parts}
use Rattle.mi_key.proofs.distances.interval.Goals as goal

pub returns : goal.returns
returns c = λ key.
    let from = c.make.ensures.number ∙ ap (λ i. key_of (made_of c.args.cluster c.args.lo i 0)) c.in-Ok-Ok.ensures.ok.0 in
    let to = c.make-2.ensures.number ∙ ap (λ i. key_of (made_of c.args.cluster c.args.hi i 1073741823)) c.in-Ok-Ok.ensures'.ok.0 in
    ap (λ n. nat_le n key && nat_le key c.make-2.result) from
    ∙ ap (λ n. nat_le (key_of (made_of c.args.cluster c.args.lo 0 0)) key && nat_le key n) to
    ∙ between-parts c.args.cluster c.args.lo c.args.hi key c.requires.order c.requires.distance
