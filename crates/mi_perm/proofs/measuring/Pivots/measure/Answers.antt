use Rattle.std.proofs.Common.{◌≡◌, ◌≤◌, ℕ, List, ap, sym, ◌∙◌, subst, map, All}
use Rattle.std.proofs.lemmas.List.{take_all}
use Rattle.mi_perm.proofs.MeasuringLemmas.{distances-bounded}
use Rattle.mi_perm.proofs.measuring.Pivots.measure.Goals as goal

pub returns-clause-bound : goal.returns-clause-bound
returns-clause-bound g c =
    let space = g.M.Metric.space c.args.metric.now in
    let items = c.as_slice-pivot-items.result.now in
    let all : c.loop-pivot.dists.items ≡ map (λ p. space.d c.args.v.now p) c.args.self.now =
    c.loop-pivot.invariant.measured ∙ ap (map (λ p. space.d c.args.v.now p)) (take_all c.loop-pivot.pivot-index items c.loop-pivot-test.false ∙ c.as_slice-pivot-items.ensures ∙ c.self.view_is) in
    let P : List ℕ → Type 0 = λ ds. All (λ d. d ≤ 128000000) ds in
    subst P (sym all) (distances-bounded space (g.met.M.Metric.laws c.args.metric.now) c.args.v.now c.requires.vector c.args.self.now c.requires.pivots)
