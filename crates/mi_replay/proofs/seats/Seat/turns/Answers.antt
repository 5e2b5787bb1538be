use Rattle.std.proofs.Common.{◌≡◌, ℕ, ◌-◌, true, sym, ap, ◌∙◌, subst, arith}
use Rattle.std.proofs.lemmas.Bool.{false≢true}
use Rattle.mi_base.specs.Configuration.{Configuration, metric_space}
use Rattle.mi_replay.specs.Seats.{is_over}
use Rattle.mi_replay.proofs.SeatBlocks.{Counting, counting_more, counting_none, turns_made}
use Rattle.mi_replay.proofs.SpendingLemmas.{spends_none, spends_on}
use Rattle.mi_replay.proofs.seats.Seat.turns.Goals as goal

pub loop-left-init : goal.loop-left-init
loop-left-init g c =
    let s = c.args.solo.now.state in
    let a = c.args.self.now in
    let none : 0 ≡ c.args.count - c.args.count = omega arith in
    record {
      few = omega arith;
      counting = subst (λ (n : ℕ). Counting c.args.actor c.args.script.now s a n s a) none (counting_none c.args.actor c.args.script.now s a c.requires.waits);
      spends = spends_none c.args.actor c.args.script.now s a c.args.steps.now;
    }

pub turn-taken-requires-clause-space : goal.turn-taken-requires-clause-space
turn-taken-requires-clause-space g c = c.requires.space ∙ ap metric_space (sym c.loop-left.invariant.counting.settings)

pub turn-taken-requires-clause-pivots : goal.turn-taken-requires-clause-pivots
turn-taken-requires-clause-pivots g c = c.requires.pivots ∙ ap (λ (x : Configuration). x.pivots) (sym c.loop-left.invariant.counting.settings)

pub turn-taken-requires-clause-ready : goal.turn-taken-requires-clause-ready
turn-taken-requires-clause-ready g c = record { waits = c.loop-left.invariant.counting.is.waits; left = sym c.is_over.ensures ∙ c.if-not-is_over.true }

pub loop-left-preserved : goal.loop-left-preserved
loop-left-preserved g c =
    let l = c.loop-left in
    let turn = c.turn-taken in
    record {
      few = omega (arith, l.invariant.few);
      counting = counting_more c.args.actor c.args.script.now c.args.solo.now.state c.args.self.now c.args.count l.left l.solo.state l.self turn.result turn.new.self turn.new.solo.state
          c.loop-left-test.true l.invariant.few l.invariant.counting turn.ensures.made turn.ensures.waits;
      spends = spends_on c.args.actor c.args.script.now c.args.solo.now.state l.solo.state turn.new.solo.state c.args.self.now l.self turn.new.self c.args.steps.now l.steps turn.new.steps
          l.invariant.spends turn.ensures.spends;
    }

pub returns-then-eq-clause-made : goal.returns-then-eq-clause-made
returns-then-eq-clause-made g c =
    let l = c.loop-left in
    let turn = c.turn-taken in
    let made = counting_more c.args.actor c.args.script.now c.args.solo.now.state c.args.self.now c.args.count l.left l.solo.state l.self turn.result turn.new.self turn.new.solo.state
    c.loop-left-test.true l.invariant.few l.invariant.counting turn.ensures.made turn.ensures.waits in
    turns_made c.args.actor c.args.script.now c.args.solo.now.state c.args.self.now (c.args.count - (l.left - 1)) c.args.count turn.new.solo.state turn.new.self (omega arith)
    (λ left. omega (arith, c.loop-left-test.true, l.invariant.few)) made

pub returns-else-not-is_over-clause-made : goal.returns-else-not-is_over-clause-made
returns-else-not-is_over-clause-made g c =
    let l = c.loop-left in
    let over : is_over c.args.script.now l.self ≡ true = sym {b = is_over c.args.script.now l.self} c.is_over.ensures ∙ c.if-not-is_over.false in
    turns_made c.args.actor c.args.script.now c.args.solo.now.state c.args.self.now (c.args.count - l.left) c.args.count l.solo.state l.self (omega arith)
    (λ left. absurd (false≢true (sym left ∙ over))) l.invariant.counting

pub returns-after-loop-left-clause-made : goal.returns-after-loop-left-clause-made
returns-after-loop-left-clause-made g c =
    let l = c.loop-left in
    turns_made c.args.actor c.args.script.now c.args.solo.now.state c.args.self.now (c.args.count - l.left) c.args.count l.solo.state l.self (omega arith)
    (λ left. omega (arith, c.loop-left-test.false, c.requires.some)) l.invariant.counting

pub returns-then-eq-clause-spends : goal.returns-then-eq-clause-spends
returns-then-eq-clause-spends g c =
    let l = c.loop-left in
    let turn = c.turn-taken in
    spends_on c.args.actor c.args.script.now c.args.solo.now.state l.solo.state turn.new.solo.state c.args.self.now l.self turn.new.self c.args.steps.now l.steps turn.new.steps
    l.invariant.spends turn.ensures.spends
