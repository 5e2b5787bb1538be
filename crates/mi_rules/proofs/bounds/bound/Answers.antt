use Rattle.std.proofs.Common.{◌≡◌, ℕ, ◌-◌, ap, sym, ◌∙◌, nat_le}
use Rattle.std.specs.Prelude.{max, slice_get, slice_index}
use Rattle.mi_rules.specs.Passing.{double_pivot, passes}
use Rattle.mi_rules.proofs.RuleLemmas.{leaf_bound, least_bound}
use Rattle.mi_rules.proofs.bounds.bound.Goals as goal

passing : (c : goal.After-max) → (r : ℕ) → passes c.args.query.now.items r c.args.leaf.now ≡ nat_le c.max.result r
passing c r =
    let dq = c.args.query.now.items in
    let prefix = c.as_slice-prefix.ensures.same in
    let distance = slice_index c.deref.result.now c.from.result in
    let at : distance ≡ slice_index dq c.in-Some.first.now = ap (slice_index c.deref.result.now) c.from.ensures ∙ ap (λ xs. slice_index xs c.in-Some.first.now) c.deref.ensures.0 in
    leaf_bound dq c.args.leaf.now c.in-Some.first.now c.in_ok-low.low c.in_ok-low.high distance c.prefix_bound.result c.max-to_hull.result c.max.result
    c.in_ok-low.was (c.in-Some.ensures.value ∙ ap (λ xs. slice_get xs 0) prefix) at
    (λ s. ap (double_pivot dq s) (sym prefix) ∙ c.prefix_bound.ensures s)
    (c.max-to_hull.ensures ∙ ap (λ n. max n c.saturating_sub-2.result) c.saturating_sub.ensures ∙ ap (max (c.in_ok-low.low - distance)) c.saturating_sub-2.ensures)
    c.max.ensures r

pub returns-clause-passes : goal.returns-clause-passes
returns-clause-passes c = passing c

pub returns-clause-least : goal.returns-clause-least
returns-clause-least c = least_bound c.args.query.now.items c.args.leaf.now c.max.result (passing c)
