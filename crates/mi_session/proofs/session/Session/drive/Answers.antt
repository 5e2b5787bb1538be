use Rattle.std.proofs.Common.{◌≡◌, ◌+◌, refl, sym, ap, ◌∙◌, subst}
use Rattle.mi_base.specs.Configuration.{Configuration, metric_space}
use Rattle.mi_base.specs.Scripts.{IsOpOver}
use Rattle.mi_session.specs.Sessions.{Answers, IsSeated}
use Rattle.mi_session.proofs.SessionLemmas.{Driving, drive_answers, drive_takes, drives_first, drives_on, drives_still, seated_stays}
use Rattle.mi_session.proofs.session.Session.drive.Goals.{in-More, in-Held}
use Rattle.mi_session.proofs.session.Session.drive.Goals as goal

pub loop-init : goal.loop-init
loop-init g c =
    let over = subst (λ s. IsOpOver (metric_space (g.W.World.view s.world).settings) c.args.op.now) (sym c.self.view_is) c.requires.fits in
    record {
      driving = drives_first c.args.op.now (c.self.inside.operations + 1) c.args.steps.now (g.M.Metric.space c.self.inside.metric.now) c.self.inside.pivots.now
          (g.W.World.view c.self.inside.world) c.new-job.result c.new-job.new.steps c.self.invariant over c.new-job.ensures.begun c.new-job.ensures.steps;
      kin = g.met.W.Forks.stays c.self.inside.world c.self.inside.world (g.met.W.World.none c.self.inside.world);
      counted = refl;
      space = c.self.invariant.space_is;
      pivots = c.self.invariant.pivots_are;
    }

pub step-requires-clause-space : goal.step-requires-clause-space
step-requires-clause-space g c = c.loop.invariant.space ∙ ap metric_space (sym c.loop.invariant.driving.later.settings)

pub step-requires-clause-pivots : goal.step-requires-clause-pivots
step-requires-clause-pivots g c = c.loop.invariant.pivots ∙ ap (λ (x : Configuration). x.pivots) (sym c.loop.invariant.driving.later.settings)

pub step-requires-clause-ready : goal.step-requires-clause-ready
step-requires-clause-ready g c = c.loop.invariant.driving.ready

pub loop-preserved : goal.loop-preserved
loop-preserved g c =
    let v = g.W.World.view c.self.inside.world in
    let w = g.W.World.view c.loop.self-inside.world in
    let u = g.W.World.view c.step.new.world in
    let number = c.self.inside.operations + 1 in
    let next : Driving c.args.op.now number c.args.steps.now v c.step.new.self u c.step.new.steps
    = elim c.match-step.branch [
      | in-More b ↦ drives_on c.args.op.now number c.args.steps.now v c.loop.job c.step.new.self w u c.loop.steps c.step.new.steps c.loop.invariant.driving b.in-More.ensures.turned b.in-More.ensures.ticks
      | in-Held b ↦ drives_still c.args.op.now number c.args.steps.now v c.loop.job c.step.new.self w u c.loop.steps c.step.new.steps c.loop.invariant.driving b.in-Held.ensures.turned b.in-Held.ensures.ticks
    ] in
    record {
      driving = next;
      kin = g.met.W.Forks.on c.self.inside.world c.loop.self-inside.world c.step.new.world c.loop.invariant.kin
          (g.met.W.Forks.stays c.loop.self-inside.world c.step.new.world c.step.ensures.section);
      counted = c.loop.invariant.counted;
      space = c.loop.invariant.space;
      pivots = c.loop.invariant.pivots;
    }

pub invariant_of-self : goal.invariant_of-self
invariant_of-self g c =
    let v = g.W.World.view c.self.inside.world in
    let w = g.W.World.view c.loop.self-inside.world in
    let u = g.W.World.view c.step.new.world in
    let d = c.loop.invariant.driving in
    let was : IsSeated (g.M.Metric.space c.loop.self-inside.metric.now) c.loop.self-inside.pivots.now v = record {
      space_is = c.loop.invariant.space;
      pivots_are = c.loop.invariant.pivots;
      limits = c.self.invariant.limits;
      claims = c.self.invariant.claims;
    } in
    seated_stays (g.M.Metric.space c.loop.self-inside.metric.now) c.loop.self-inside.pivots.now v u was (c.in-Done.ensures.turned.later.settings ∙ d.later.settings)
    c.in-Done.ensures.turned.outcome.claims

pub returns-in-Done-clause-answers : goal.returns-in-Done-clause-answers
returns-in-Done-clause-answers g c =
    let v = g.W.World.view c.self.inside.world in
    let w = g.W.World.view c.loop.self-inside.world in
    let u = g.W.World.view c.step.new.world in
    subst (λ s. Answers c.args.op.now (s.operations + 1) (g.W.World.view s.world) c.in-Done.reply u) c.self.view_is
    (drive_answers c.args.op.now (c.self.inside.operations + 1) c.args.steps.now v c.loop.job c.step.new.self w u c.loop.steps c.in-Done.reply c.loop.invariant.driving c.in-Done.ensures.turned)

pub returns-in-Done-clause-steps : goal.returns-in-Done-clause-steps
returns-in-Done-clause-steps g c =
    let v = g.W.World.view c.self.inside.world in
    let w = g.W.World.view c.loop.self-inside.world in
    let u = g.W.World.view c.step.new.world in
    drive_takes c.args.op.now (c.self.inside.operations + 1) c.args.steps.now v c.loop.job c.step.new.self w u c.loop.steps c.in-Done.reply c.loop.invariant.driving c.in-Done.ensures.turned
    c.step.new.steps c.in-Done.ensures.ticks

pub returns-in-Done-clause-kin : goal.returns-in-Done-clause-kin
returns-in-Done-clause-kin g c =
    let last = g.met.W.Forks.stays c.loop.self-inside.world c.step.new.world c.step.ensures.section in
    let all = g.met.W.Forks.on c.self.inside.world c.loop.self-inside.world c.step.new.world c.loop.invariant.kin last in
    subst (λ s. g.W.Forks.kin s.world c.step.new.world) c.self.view_is all

pub returns-in-Done-clause-operations : goal.returns-in-Done-clause-operations
returns-in-Done-clause-operations g c = subst (λ s. c.loop.self-inside.operations ≡ s.operations + 1) c.self.view_is c.loop.invariant.counted
