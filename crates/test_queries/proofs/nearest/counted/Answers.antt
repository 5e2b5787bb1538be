use Rattle.std.proofs.Common.{ap, sym, ◌∙◌, rules}
use Rattle.mi_base.specs.Permutations.{distances}
use Rattle.test_queries.proofs.nearest.counted.Goals as goal

pub take-requires-clause-measured : goal.take-requires-clause-measured
take-requires-clause-measured g c = record {
  pivots = c.args.pivots.now;
  pivots_fit = search rules;
  of_query = ap (λ w. w.dists) c.room.ensures.same ∙ c.loop-number.invariant;
  of_object = ap (λ ds. ds.items) c.entry-entry.ensures.dists ∙ c.measure-dists.ensures.distances
      ∙ ap (distances (record { metric = g.M.Metric.space c.args.metric.now; pivots = c.args.pivots.now })) (sym c.entry-entry.ensures.vector);
}
