use Rattle.std.proofs.Common.{◌∙◌, ap, length}
use Rattle.mi_range.proofs.NextLemmas.{fit_here, opens_here}
use Rattle.mi_range.proofs.SectionLemmas.{begins, now_pinned}
use Rattle.mi_range.proofs.range.RangeOp.begin.Goals as goal
use Rattle.mi_world.proofs.QueryLemmas.{measured}

pub open_next-self-requires-clause-fit : goal.open_next-self-requires-clause-fit
open_next-self-requires-clause-fit g c =
    let op = c.args.self.now in
    let v = g.W.World.view c.args.world.now in
    let w = g.W.World.view c.pin.new.self in
    let told = c.in-Ok.ensures.told in
    let dists = measured op.query v w (g.M.Metric.space c.args.metric.now) c.args.pivots.now c.measure-dists.result.items told.later.settings c.requires.space c.requires.pivots c.measure-dists.ensures.distances in
    fit_here op c.in-Ok.look.at w c.new-work.result.dists c.pinned.result.now (now_pinned op v w c.requires.state c.requires.ready c.in-Ok.look told) (c.new-work.ensures.dists ∙ dists) c.pinned.ensures

pub returns-in-Ok-clause-turned : goal.returns-in-Ok-clause-turned
returns-in-Ok-clause-turned g c =
    let op = c.args.self.now in
    let v = g.W.World.view c.args.world.now in
    let w = g.W.World.view c.pin.new.self in
    let told = c.in-Ok.ensures.told in
    let look = c.in-Ok.look in
    let work = c.new-work.result in
    let dists = measured op.query v w (g.M.Metric.space c.args.metric.now) c.args.pivots.now c.measure-dists.result.items told.later.settings c.requires.space c.requires.pivots c.measure-dists.ensures.distances in
    let of_work = c.new-work.ensures.dists ∙ dists in
    let opens = opens_here op w work.dists work.radius c.pinned.result.now 0 0 look.root look.at c.open_next-self.result of_work c.new-work.ensures.radius c.pinned.ensures c.open_next-self.ensures in
    begins op v w c.requires.state c.requires.ready look told work of_work c.new-work.ensures.radius c.new-work.ensures.rows (c.new-work.ensures.distances ∙ ap length dists) c.open_next-self.result opens
