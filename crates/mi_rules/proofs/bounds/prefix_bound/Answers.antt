use Rattle.std.proofs.Common.{◌≡◌, ◌≤◌, length, take, ap, sym, ◌∙◌, arith}
use Rattle.std.specs.Prelude.{slice_index}
use Rattle.mi_rules.specs.Passing.{none_nearer}
use Rattle.mi_rules.proofs.BoundLemmas.{place_more, max_is, all_taken}
use Rattle.mi_rules.proofs.bounds.prefix_bound.Goals as goal

pub loop-place-preserved : goal.loop-place-preserved
loop-place-preserved c =
    let dq = c.args.query.now.items in
    let prefix = c.args.prefix.now in
    let i = c.loop-place.place in
    let distance : slice_index dq (slice_index prefix i) ≡ slice_index c.deref.result.now c.from.result =
    ap (slice_index dq) (sym c.from.ensures) ∙ ap (λ xs. slice_index xs c.from.result) (sym c.deref.ensures.0) in
    place_more (λ r l. none_nearer dq r (take l prefix) (slice_index dq (slice_index prefix l))) (length prefix) i c.loop-place.bound c.place_bound.result c.max-bound.result
    c.loop-place-test.true c.loop-place.invariant (λ r. ap (none_nearer dq r (take i prefix)) distance ∙ c.place_bound.ensures r)
    (c.max-bound.ensures ∙ max_is c.loop-place.bound c.place_bound.result)

pub returns : goal.returns
returns c = λ r.
    let past : length c.args.prefix.now ≤ c.loop-place.place = omega arith in
    sym (all_taken (λ l. none_nearer c.args.query.now.items r (take l c.args.prefix.now) (slice_index c.args.query.now.items (slice_index c.args.prefix.now l))) (length c.args.prefix.now) c.loop-place.place past) ∙ c.loop-place.invariant r
