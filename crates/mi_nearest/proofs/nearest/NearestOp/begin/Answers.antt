use Rattle.std.proofs.Common.{◌∙◌}
use Rattle.mi_nearest.proofs.NextLemmas.{below_here, fit_here, opens_here, ranked_there}
use Rattle.mi_nearest.proofs.SectionLemmas.{begins, now_pinned}
use Rattle.mi_nearest.proofs.nearest.NearestOp.begin.Goals as goal
use Rattle.mi_world.proofs.QueryLemmas.{measured}

pub ranked-requires : goal.ranked-requires
ranked-requires g c =
    let op = c.args.self.now in
    let v = g.W.World.view c.args.world.now in
    let w = g.W.World.view c.pin.new.self in
    let told = c.in-Ok.ensures.told in
    let dists = measured op.query v w (g.M.Metric.space c.args.metric.now) c.args.pivots.now c.measure-dists.result.items told.later.settings c.requires.space c.requires.pivots c.measure-dists.ensures.distances in
    record { pivots = below_here op c.in-Ok.look.at w c.measure-dists.result.items c.pinned.result.now (now_pinned op v w c.requires.state c.requires.ready c.in-Ok.look told) dists c.pinned.ensures }

pub open_next-self-requires-clause-fit : goal.open_next-self-requires-clause-fit
open_next-self-requires-clause-fit g c =
    let op = c.args.self.now in
    let v = g.W.World.view c.args.world.now in
    let w = g.W.World.view c.pin.new.self in
    let told = c.in-Ok.ensures.told in
    let dists = measured op.query v w (g.M.Metric.space c.args.metric.now) c.args.pivots.now c.measure-dists.result.items told.later.settings c.requires.space c.requires.pivots c.measure-dists.ensures.distances in
    fit_here op c.in-Ok.look.at w c.new-work.result.dists c.pinned-in-Ok.result.now (now_pinned op v w c.requires.state c.requires.ready c.in-Ok.look told) (c.new-work.ensures.dists ∙ dists) c.pinned-in-Ok.ensures

pub returns-in-Ok-ranked-clause-turned : goal.returns-in-Ok-ranked-clause-turned
returns-in-Ok-ranked-clause-turned g c =
    let op = c.args.self.now in
    let v = g.W.World.view c.args.world.now in
    let w = g.W.World.view c.pin.new.self in
    let told = c.in-Ok.ensures.told in
    let look = c.in-Ok.look in
    let work = c.new-work.result in
    let ranks = c.in-Ok-ranked.ranks in
    let dists = measured op.query v w (g.M.Metric.space c.args.metric.now) c.args.pivots.now c.measure-dists.result.items told.later.settings c.requires.space c.requires.pivots c.measure-dists.ensures.distances in
    let of_work = c.new-work.ensures.dists ∙ dists in
    let ranked = ranked_there op w c.measure-dists.result.items c.pinned.result.now ranks.items dists c.pinned.ensures c.in-Ok-ranked.ensures in
    let opens = opens_here op w work.dists c.pinned-in-Ok.result.now ranks.items work 0 look.root look.at c.open_next-self.result of_work c.pinned-in-Ok.ensures c.open_next-self.ensures in
    begins op v w c.requires.state c.requires.ready look told (record { ranks = ranks; work = work }) of_work c.new-work.ensures.count c.new-work.ensures.rows ranked c.open_next-self.result opens
