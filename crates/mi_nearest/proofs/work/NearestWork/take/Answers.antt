use Rattle.std.proofs.Common.{◌≡◌, ◌∙◌, sym}
use Rattle.mi_base.specs.declared.records.Row.{Row}
use Rattle.mi_base.specs.History.{row_of}
use Rattle.mi_key.specs.Entries.{object_of, offering_of}
use Rattle.mi_nearest.proofs.FirstLemmas.{take_kept, take_refused}
use Rattle.mi_nearest.proofs.work.NearestWork.take.Goals as goal

pub returns-then-not-may_be_near-clause-taken : goal.returns-then-not-may_be_near-clause-taken
returns-then-not-may_be_near-clause-taken g c =
    take_refused (g.M.Metric.space c.args.metric.now) (g.met.M.Metric.laws c.args.metric.now) c.args.query.now c.requires.query c.args.self.now c.args.steps.now (offering_of c.args.entry.now) c.requires.object
    c.requires.measured (sym c.may_be_near.ensures ∙ c.if-not-may_be_near.true)

pub returns-clause-taken : goal.returns-clause-taken
returns-clause-taken g c =
    let row : Row = record { distance = c.distance-distance.result; id = c.parts-id.result.id } in
    let is : row ≡ row_of (g.M.Metric.space c.args.metric.now) c.args.query.now (object_of c.args.entry.now) = cc (c.distance-distance.ensures.distance) in
    take_kept (g.M.Metric.space c.args.metric.now) c.args.query.now c.args.self.now c.keep.new.self c.args.steps.now c.distance-distance.new.steps (offering_of c.args.entry.now) row is
    c.keep.ensures.dists c.keep.ensures.count c.keep.ensures.rows c.distance-distance.ensures.tick
