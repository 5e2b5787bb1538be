use Rattle.std.proofs.Common.{◌≡◌, ◌+◌, Option, Some, refl, sym, ◌∙◌, subst, arith}
use Rattle.std.proofs.lemmas.Option.{same_Some}
use Rattle.mi_base.specs.Configuration.{space_of}
use Rattle.mi_base.specs.Space.{Space}
use Rattle.mi_job.specs.declared.job.Job.{Job}
use Rattle.mi_job.specs.Jobs.{Ready, Ticks, Turned}
use Rattle.mi_solo.specs.States.{view_in}
use Rattle.mi_replay.specs.Seats.{IsNext}
use Rattle.mi_replay.specs.Spending.{measured_from}
use Rattle.mi_replay.proofs.SeatBlocks.{some_left}
use Rattle.mi_replay.proofs.SeatQueries.{next_ready}
use Rattle.mi_replay.proofs.SpendingLemmas.{leaves_on, same_turn, section_spends}
use Rattle.mi_replay.proofs.seats.Seat.section.Goals as goal

pub take_up-requires-clause-left : goal.take_up-requires-clause-left
take_up-requires-clause-left g c = some_left c.args.solo.now.state c.args.solo.now.turn c.args.script.now c.args.self.now c.requires.ready

pub step-answer-requires-clause-ready : goal.step-answer-requires-clause-ready
step-answer-requires-clause-ready g c =
    let s = c.args.solo.now.state in
    let same : record { metric = g.M.Metric.space c.args.metric.now; pivots = c.args.pivots.now } ≡ space_of s.board.settings = rw (c.requires.space, c.requires.pivots) refl in
    let next = c.take_up.ensures.next in
    subst (λ (j : Job). Ready j (view_in s c.args.solo.now.turn)) (same_Some next.0 c.in-Some.job (sym next.1 ∙ c.in-Some.is))
    (next_ready c.args.script.now c.args.self.now c.args.self.now.job next.0 _ _ same c.requires.ready.waits.fits c.requires.ready.waits.at next.2)

pub leave-requires : goal.leave-requires
leave-requires g c =
    let less = some_left c.args.solo.now.state c.args.solo.now.turn c.args.script.now c.args.self.now c.requires.ready in
    rw c.take_up.ensures.same (omega (arith, less, c.requires.ready.waits.room))

pub returns-clause-spends : goal.returns-clause-spends
returns-clause-spends g c =
    let a = c.args.self.now in
    let s = c.args.solo.now.state in
    let k = c.args.solo.now.turn in
    let script = c.args.script.now in
    let next = c.take_up.ensures.next in
    let step = c.step-answer in
    let t = step.new.world.state in
    let old : Job = c.in-Some.job in
    let same : record { metric = g.M.Metric.space c.args.metric.now; pivots = c.args.pivots.now } ≡ space_of s.board.settings = rw (c.requires.space, c.requires.pivots) refl in
    let is : IsNext (space_of s.board.settings) script a a.job old =
    subst (λ (j : Job). IsNext (space_of s.board.settings) script a a.job j) (same_Some next.0 old (sym next.1 ∙ c.in-Some.is))
    (subst (λ (m : Space). IsNext m script a a.job next.0) same next.2) in
    let i = c.args.steps.now in
    let m = c.take_up.new.steps in
    let measured : m ≡ i + measured_from a.job (Some old) s.board.settings.pivots =
    subst (λ ps. m ≡ i + measured_from a.job (Some old) ps) c.requires.pivots (subst (λ (o : Option Job). m ≡ i + measured_from a.job o c.args.pivots.now) c.in-Some.is c.take_up.ensures.steps) in
    let turn : step.new.world.turn ≡ k = same_turn c.args.solo.now step.new.world step.ensures.section in
    let turned = subst (λ n. Turned old (view_in s k) step.result step.new.self (view_in t n)) turn step.ensures.turned in
    let ticks = subst (λ n. Ticks old (view_in s k) m step.result step.new.self (view_in t n) step.new.steps) turn step.ensures.ticks in
    section_spends k script s a i m step.new.steps old step.new.self c.leave.result c.leave.new.self t step.result c.requires.ready.waits.asks is measured turned ticks
    (leaves_on c.take_up.new.self a step.result c.leave.result (Some step.new.self) c.leave.new.self c.take_up.ensures.same c.leave.ensures.leaves)
