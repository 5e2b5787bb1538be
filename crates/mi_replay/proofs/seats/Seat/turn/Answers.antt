use Rattle.std.proofs.Common.{ℕ, sym, ◌∙◌, subst}
use Rattle.mi_solo.specs.Solos.{MayTurn}
use Rattle.mi_replay.specs.Seats.{SeatReady, SeatTurned}
use Rattle.mi_replay.specs.Spending.{SeatSpends}
use Rattle.mi_replay.proofs.SeatBlocks.{ready_seen, waits_after}
use Rattle.mi_settle.proofs.ComingLemmas.{comes, comes_same, may_still}
use Rattle.mi_replay.proofs.SpendingLemmas.{spends_from}
use Rattle.mi_replay.proofs.seats.Seat.turn.Goals as goal

pub section-taken-requires-clause-ready : goal.section-taken-requires-clause-ready
section-taken-requires-clause-ready g c =
    let s = c.args.solo.now.state in
    let k = c.args.actor in
    let m = c.turn_to.new.self.state in
    let may = c.requires.ready.waits.may in
    let same = comes_same s k m (comes s k m may c.turn_to.ensures.seen) in
    subst (λ (n : ℕ). SeatReady m n c.args.script.now c.args.self.now) (sym c.turn_to.ensures.turn)
    (ready_seen s k c.args.script.now c.args.self.now m same (may_still s k m may c.turn_to.ensures.seen) c.requires.ready)

pub returns-clause-made : goal.returns-clause-made
returns-clause-made g c =
    let m = c.turn_to.new.self.state in
    record {
      between = m;
      comes = comes c.args.solo.now.state c.args.actor m c.requires.ready.waits.may c.turn_to.ensures.seen;
      section = subst (λ (n : ℕ). SeatTurned n c.args.script.now m c.args.self.now c.section-taken.result c.section-taken.new.self c.section-taken.new.solo.state) c.turn_to.ensures.turn
          c.section-taken.ensures.turned;
    }

pub returns-clause-spends : goal.returns-clause-spends
returns-clause-spends g c =
    let s = c.args.solo.now.state in
    let k = c.args.actor in
    let m = c.turn_to.new.self.state in
    let section = c.section-taken in
    spends_from k c.args.script.now s m section.new.solo.state c.args.self.now section.new.self c.args.steps.now section.new.steps
    (comes_same s k m (comes s k m c.requires.ready.waits.may c.turn_to.ensures.seen))
    (subst (λ (n : ℕ). SeatSpends n c.args.script.now m c.args.self.now c.args.steps.now section.new.solo.state section.new.self section.new.steps) c.turn_to.ensures.turn section.ensures.spends)

pub returns-clause-waits : goal.returns-clause-waits
returns-clause-waits g c =
    let t = c.section-taken.new.solo.state in
    waits_after c.args.actor c.args.script.now c.args.solo.now.state c.args.self.now c.section-taken.result c.section-taken.new.self t (returns-clause-made g c) c.requires.ready
    (subst (MayTurn t) (c.section-taken.ensures.turn ∙ c.turn_to.ensures.turn) c.log.ensures.turn)
