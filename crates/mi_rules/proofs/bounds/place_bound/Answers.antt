use Rattle.std.proofs.Common.{◌≡◌, ◌+◌, ◌-◌, ◌*◌, ◌<◌, ◌≤◌, ◌||◌, length, ap, sym, ◌∙◌, cond, nat_le, arith}
use Rattle.std.specs.Prelude.{slice_index, max}
use Rattle.std.specs.Int.{div_ceil}
use Rattle.mi_base.specs.Prefixes.{has}
use Rattle.mi_rules.proofs.BoundLemmas.{pivot_more, max_is, all_taken}
use Rattle.mi_rules.proofs.bounds.place_bound.Goals as goal
use Rattle.mi_rules.proofs.bounds.place_bound.Goals.{then-not-contains, else-not-contains}

pub loop-pivot-preserved : goal.loop-pivot-preserved
loop-pivot-preserved c =
    let i = c.loop-pivot.pivot in
    let dq = c.args.query.now.items in
    let bound = c.loop-pivot.bound in
    let need = div_ceil (c.args.distance - slice_index dq i) 2 in
    let within : i < length dq = omega (arith, ap length c.loop-pivot.invariant.items) in
    record {
      items = c.loop-pivot.invariant.items;
      bound =
          pivot_more dq c.args.earlier.now c.args.distance i bound c.if-not-contains.bound within c.loop-pivot.invariant.bound
          (elim c.if-not-contains.branch [
            | then-not-contains w ↦
                w.bound-is ∙ w.max-bound.ensures ∙ max_is bound w.div_ceil.result
                ∙ ap (max bound) (w.div_ceil.ensures ∙ ap (λ d. div_ceil d 2) (w.saturating_sub.ensures ∙ ap (λ xs. c.args.distance - slice_index xs i) c.loop-pivot.invariant.items))
                ∙ ap (λ b. max bound (cond b 0 need)) (sym w.if-not-contains.true ∙ c.contains.ensures.value)
            | else-not-contains w ↦
                let kept : bound ≡ max bound 0 = omega arith in
                w.bound-is ∙ kept ∙ ap (λ b. max bound (cond b 0 need)) (sym w.if-not-contains.false ∙ c.contains.ensures.value)
          ]);
    }

pub returns : goal.returns
returns c = λ r.
    let past : length c.args.query.now.items ≤ c.loop-pivot.pivot = omega (arith, ap length c.loop-pivot.invariant.items) in
    sym (all_taken (λ j. has j c.args.earlier.now || nat_le c.args.distance (slice_index c.args.query.now.items j + 2 * r)) (length c.args.query.now.items) c.loop-pivot.pivot past) ∙ c.loop-pivot.invariant.bound r
