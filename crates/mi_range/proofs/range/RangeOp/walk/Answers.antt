use Rattle.std.proofs.Common.{◌∙◌, ◌+◌, sym, arith}
use Rattle.mi_blink.specs.declared.walk.WalkTurn.TheVariants as turns
use Rattle.mi_range.proofs.NextLemmas.{fit_here, opens_here}
use Rattle.mi_range.proofs.SectionLemmas.{few_counted, few_places, place_within, section_ticks, still_pinned, walks_done, walks_on, work_dists}
use Rattle.mi_range.proofs.range.RangeOp.walk.Goals as goal

pub overflow_add-place : goal.overflow_add-place
overflow_add-place g c =
    let op = c.args.self.now in
    let v = g.W.World.view c.args.world.now in
    let w = g.W.World.view c.sift.new.world in
    let a = c.args in
    omega (
      arith,
      place_within op v w a.place a.cells a.root a.at a.walk c.sift.new.walk turns.Done c.requires.state c.requires.ready c.in-Done.ensures.walked,
      few_places op v w a.place a.cells a.root a.at a.walk c.sift.new.walk turns.Done c.requires.state c.requires.ready c.in-Done.ensures.walked,
    )

pub overflow_add-cells : goal.overflow_add-cells
overflow_add-cells g c =
    let op = c.args.self.now in
    let v = g.W.World.view c.args.world.now in
    let w = g.W.World.view c.sift.new.world in
    let a = c.args in
    omega (
      arith,
      few_counted op v w a.place a.cells a.root a.at a.walk c.sift.new.walk turns.Done c.requires.state c.requires.ready c.in-Done.ensures.walked,
      place_within op v w a.place a.cells a.root a.at a.walk c.sift.new.walk turns.Done c.requires.state c.requires.ready c.in-Done.ensures.walked,
      few_places op v w a.place a.cells a.root a.at a.walk c.sift.new.walk turns.Done c.requires.state c.requires.ready c.in-Done.ensures.walked,
    )

pub open_next-self-requires-clause-fit : goal.open_next-self-requires-clause-fit
open_next-self-requires-clause-fit g c =
    let op = c.args.self.now in
    let v = g.W.World.view c.args.world.now in
    let w = g.W.World.view c.sift.new.world in
    let a = c.args in
    let walked = c.in-Done.ensures.walked in
    let new = c.sift.new.work in
    let dists = work_dists op v w a.place a.cells a.root a.at a.walk c.sift.new.walk turns.Done c.requires.state c.requires.ready walked c.in-Some.work c.room.new.self new (sym c.take.ensures.value ∙ c.in-Some.is) c.room.ensures.same
    (g.M.Metric.space a.metric.now) a.steps.now c.sift.new.steps c.in-Done.ensures.sifted in
    fit_here op a.at w new.dists c.pinned.result.now (still_pinned op v w a.place a.cells a.root a.at a.walk c.sift.new.walk turns.Done c.requires.state c.requires.ready walked) dists.0 c.pinned.ensures

pub returns-in-More-clause-turned : goal.returns-in-More-clause-turned
returns-in-More-clause-turned g c =
    let op = c.args.self.now in
    let v = g.W.World.view c.args.world.now in
    let w = g.W.World.view c.sift.new.world in
    let a = c.args in
    walks_on op v w a.place a.cells a.root a.at a.walk c.sift.new.walk c.requires.state c.requires.ready (g.M.Metric.space a.metric.now) c.requires.space c.in-Some.work c.room.new.self c.sift.new.work
    (sym c.take.ensures.value ∙ c.in-Some.is) c.room.ensures.same a.steps.now c.sift.new.steps c.in-More.ensures.walked c.in-More.ensures.sifted

pub returns-in-More-clause-ticks : goal.returns-in-More-clause-ticks
returns-in-More-clause-ticks g c =
    let op = c.args.self.now in
    let v = g.W.World.view c.args.world.now in
    let w = g.W.World.view c.sift.new.world in
    let a = c.args in
    section_ticks op v w a.place a.cells a.root a.at a.walk c.sift.new.walk turns.More c.requires.state c.requires.ready c.in-More.ensures.walked (g.M.Metric.space a.metric.now) c.requires.space c.in-Some.work c.room.new.self c.sift.new.work
    (sym c.take.ensures.value ∙ c.in-Some.is) c.room.ensures.same a.steps.now c.sift.new.steps c.in-More.ensures.sifted

pub returns-in-Done-clause-turned : goal.returns-in-Done-clause-turned
returns-in-Done-clause-turned g c =
    let op = c.args.self.now in
    let v = g.W.World.view c.args.world.now in
    let w = g.W.World.view c.sift.new.world in
    let a = c.args in
    let walked = c.in-Done.ensures.walked in
    let new = c.sift.new.work in
    let dists = work_dists op v w a.place a.cells a.root a.at a.walk c.sift.new.walk turns.Done c.requires.state c.requires.ready walked c.in-Some.work c.room.new.self new (sym c.take.ensures.value ∙ c.in-Some.is) c.room.ensures.same
    (g.M.Metric.space a.metric.now) a.steps.now c.sift.new.steps c.in-Done.ensures.sifted in
    let opens = opens_here op w new.dists new.radius c.pinned.result.now (a.place + 1) (a.cells + 1) a.root a.at c.open_next-self.result dists.0 dists.1 c.pinned.ensures c.open_next-self.ensures in
    walks_done op v w a.place a.cells a.root a.at a.walk c.sift.new.walk c.requires.state c.requires.ready (g.M.Metric.space a.metric.now) c.requires.space c.in-Some.work c.room.new.self new
    (sym c.take.ensures.value ∙ c.in-Some.is) c.room.ensures.same a.steps.now c.sift.new.steps walked c.in-Done.ensures.sifted c.open_next-self.result opens

pub returns-in-Done-clause-ticks : goal.returns-in-Done-clause-ticks
returns-in-Done-clause-ticks g c =
    let op = c.args.self.now in
    let v = g.W.World.view c.args.world.now in
    let w = g.W.World.view c.sift.new.world in
    let a = c.args in
    section_ticks op v w a.place a.cells a.root a.at a.walk c.sift.new.walk turns.Done c.requires.state c.requires.ready c.in-Done.ensures.walked (g.M.Metric.space a.metric.now) c.requires.space c.in-Some.work c.room.new.self c.sift.new.work
    (sym c.take.ensures.value ∙ c.in-Some.is) c.room.ensures.same a.steps.now c.sift.new.steps c.in-Done.ensures.sifted
