use Rattle.std.proofs.Common.{sym, ap, ◌∙◌}
use Rattle.mi_key.specs.Entries.{offering_of}
use Rattle.mi_rules.specs.Passing.{lets_through}
use Rattle.mi_range.proofs.TakeLemmas.{take_refused}
use Rattle.mi_range.proofs.work.RangeWork.take.Goals as goal

pub returns-then-not-filter-clause-taken : goal.returns-then-not-filter-clause-taken
returns-then-not-filter-clause-taken g c =
    take_refused (g.M.Metric.space c.args.metric.now) (g.met.M.Metric.laws c.args.metric.now) c.args.query.now c.requires.query c.args.self.now c.args.steps.now (offering_of c.args.entry.now) c.requires.object
    c.requires.measured
    (ap (λ w. lets_through w.radius w.dists c.args.entry.now.dists.items) (sym c.self.view_is) ∙ sym c.filter.ensures ∙ c.if-not-filter.true)
