use Rattle.std.proofs.Common.{◌∙◌, ◌+◌, sym, subst, arith}
use Rattle.mi_base.specs.Space.{IsMetric}
use Rattle.mi_blink.specs.declared.walk.WalkTurn.TheVariants as turns
use Rattle.mi_nearest.proofs.NextLemmas.{fit_here, opens_here, ranked_where}
use Rattle.mi_nearest.proofs.SectionLemmas.{few_so_far, reading, still_pinned, still_ranked, ticks_done, ticks_on, walks_done, walks_on, work_dists}
use Rattle.mi_nearest.proofs.nearest.NearestOp.walk.Goals as goal

pub overflow_add-opened : goal.overflow_add-opened
overflow_add-opened g c =
    let op = c.args.self.now in
    let v = g.W.World.view c.args.world.now in
    let w = g.W.World.view c.sift.new.world in
    let a = c.args in
    let kept = c.in-Some.found in
    let is = sym c.take.ensures.value ∙ c.in-Some.is in
    let h = reading op v a.opened a.root a.at a.walk c.requires.state c.requires.ready in
    omega (
      arith,
      few_so_far op v w a.opened a.root a.at a.walk c.sift.new.walk turns.Done c.requires.state c.requires.ready h c.in-Done.ensures.walked kept is
          (g.M.Metric.space a.metric.now) c.requires.space c.room.new.self c.sift.new.work c.room.ensures.same a.steps.now c.sift.new.steps c.in-Done.ensures.sifted,
    )

pub open_next-self-requires-clause-fit : goal.open_next-self-requires-clause-fit
open_next-self-requires-clause-fit g c =
    let op = c.args.self.now in
    let v = g.W.World.view c.args.world.now in
    let w = g.W.World.view c.sift.new.world in
    let a = c.args in
    let kept = c.in-Some.found in
    let is = sym c.take.ensures.value ∙ c.in-Some.is in
    let h = reading op v a.opened a.root a.at a.walk c.requires.state c.requires.ready in
    let dists = work_dists op v w a.opened a.root a.at a.walk c.sift.new.walk turns.Done c.requires.state c.requires.ready h c.in-Done.ensures.walked kept is
    (g.M.Metric.space a.metric.now) c.requires.space c.room.new.self c.sift.new.work c.room.ensures.same a.steps.now c.sift.new.steps c.in-Done.ensures.sifted in
    fit_here op a.at w c.sift.new.work.dists c.pinned.result.now (still_pinned op v w a.opened a.root a.at a.walk c.sift.new.walk turns.Done c.requires.state c.requires.ready h c.in-Done.ensures.walked) dists c.pinned.ensures

pub open_next-self-requires-clause-ranked : goal.open_next-self-requires-clause-ranked
open_next-self-requires-clause-ranked g c =
    let op = c.args.self.now in
    let v = g.W.World.view c.args.world.now in
    let w = g.W.World.view c.sift.new.world in
    let a = c.args in
    let kept = c.in-Some.found in
    let is = sym c.take.ensures.value ∙ c.in-Some.is in
    let h = reading op v a.opened a.root a.at a.walk c.requires.state c.requires.ready in
    let dists = work_dists op v w a.opened a.root a.at a.walk c.sift.new.walk turns.Done c.requires.state c.requires.ready h c.in-Done.ensures.walked kept is
    (g.M.Metric.space a.metric.now) c.requires.space c.room.new.self c.sift.new.work c.room.ensures.same a.steps.now c.sift.new.steps c.in-Done.ensures.sifted in
    ranked_where op w c.sift.new.work.dists c.pinned.result.now kept.ranks.items dists c.pinned.ensures
    (still_ranked op v w a.opened a.root a.at a.walk c.sift.new.walk turns.Done c.requires.state c.requires.ready h c.in-Done.ensures.walked kept is
    (g.M.Metric.space a.metric.now) c.requires.space c.room.new.self c.sift.new.work c.room.ensures.same a.steps.now c.sift.new.steps c.in-Done.ensures.sifted)

pub returns-in-More-clause-turned : goal.returns-in-More-clause-turned
returns-in-More-clause-turned g c =
    let op = c.args.self.now in
    let v = g.W.World.view c.args.world.now in
    let w = g.W.World.view c.sift.new.world in
    let a = c.args in
    let kept = c.in-Some.found in
    let is = sym c.take.ensures.value ∙ c.in-Some.is in
    let h = reading op v a.opened a.root a.at a.walk c.requires.state c.requires.ready in
    walks_on op v w a.opened a.root a.at a.walk c.sift.new.walk c.requires.state c.requires.ready h kept is (g.M.Metric.space a.metric.now) c.requires.space c.room.new.self c.sift.new.work c.room.ensures.same a.steps.now c.sift.new.steps c.in-More.ensures.walked c.in-More.ensures.sifted

pub returns-in-More-clause-ticks : goal.returns-in-More-clause-ticks
returns-in-More-clause-ticks g c =
    let op = c.args.self.now in
    let v = g.W.World.view c.args.world.now in
    let w = g.W.World.view c.sift.new.world in
    let a = c.args in
    let kept = c.in-Some.found in
    let is = sym c.take.ensures.value ∙ c.in-Some.is in
    let h = reading op v a.opened a.root a.at a.walk c.requires.state c.requires.ready in
    ticks_on op v w a.opened a.root a.at a.walk c.sift.new.walk c.requires.state c.requires.ready h kept is (g.M.Metric.space a.metric.now) c.requires.space c.room.new.self c.sift.new.work c.room.ensures.same a.steps.now c.sift.new.steps c.in-More.ensures.walked c.in-More.ensures.sifted

pub returns-in-Done-clause-turned : goal.returns-in-Done-clause-turned
returns-in-Done-clause-turned g c =
    let op = c.args.self.now in
    let v = g.W.World.view c.args.world.now in
    let w = g.W.World.view c.sift.new.world in
    let a = c.args in
    let kept = c.in-Some.found in
    let is = sym c.take.ensures.value ∙ c.in-Some.is in
    let h = reading op v a.opened a.root a.at a.walk c.requires.state c.requires.ready in
    let metric = subst IsMetric c.requires.space (g.met.M.Metric.laws a.metric.now) in
    let dists = work_dists op v w a.opened a.root a.at a.walk c.sift.new.walk turns.Done c.requires.state c.requires.ready h c.in-Done.ensures.walked kept is
    (g.M.Metric.space a.metric.now) c.requires.space c.room.new.self c.sift.new.work c.room.ensures.same a.steps.now c.sift.new.steps c.in-Done.ensures.sifted in
    let opens = opens_here op w c.sift.new.work.dists c.pinned.result.now kept.ranks.items c.sift.new.work (a.opened + 1) a.root a.at c.open_next-self.result dists c.pinned.ensures c.open_next-self.ensures in
    walks_done op v w a.opened a.root a.at a.walk c.sift.new.walk c.requires.state c.requires.ready h kept is (g.M.Metric.space a.metric.now) c.requires.space c.room.new.self c.sift.new.work c.room.ensures.same a.steps.now c.sift.new.steps metric c.in-Done.ensures.walked c.in-Done.ensures.sifted c.open_next-self.result opens

pub returns-in-Done-clause-ticks : goal.returns-in-Done-clause-ticks
returns-in-Done-clause-ticks g c =
    let op = c.args.self.now in
    let v = g.W.World.view c.args.world.now in
    let w = g.W.World.view c.sift.new.world in
    let a = c.args in
    let kept = c.in-Some.found in
    let is = sym c.take.ensures.value ∙ c.in-Some.is in
    let h = reading op v a.opened a.root a.at a.walk c.requires.state c.requires.ready in
    let metric = subst IsMetric c.requires.space (g.met.M.Metric.laws a.metric.now) in
    let dists = work_dists op v w a.opened a.root a.at a.walk c.sift.new.walk turns.Done c.requires.state c.requires.ready h c.in-Done.ensures.walked kept is
    (g.M.Metric.space a.metric.now) c.requires.space c.room.new.self c.sift.new.work c.room.ensures.same a.steps.now c.sift.new.steps c.in-Done.ensures.sifted in
    let opens = opens_here op w c.sift.new.work.dists c.pinned.result.now kept.ranks.items c.sift.new.work (a.opened + 1) a.root a.at c.open_next-self.result dists c.pinned.ensures c.open_next-self.ensures in
    ticks_done op v w a.opened a.root a.at a.walk c.sift.new.walk c.requires.state c.requires.ready h kept is (g.M.Metric.space a.metric.now) c.requires.space c.room.new.self c.sift.new.work c.room.ensures.same a.steps.now c.sift.new.steps metric c.in-Done.ensures.walked c.in-Done.ensures.sifted c.open_next-self.result opens
