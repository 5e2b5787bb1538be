use Rattle.std.proofs.Common.{◌≡◌, ℕ, suc, ◌+◌, ◌∷◌, [], length, sym, ap, ◌∙◌, subst, arith}
use Rattle.std.specs.Prelude.{List}
use Rattle.mi_base.specs.declared.records.Actor.TheVariants.{Session, Splitter}
use Rattle.mi_base.specs.declared.records.Take.TheVariants.{Operation}
use Rattle.mi_base.specs.Configuration.{Configuration, metric_space}
use Rattle.mi_replay.specs.declared.seats.Seat.{Seat}
use Rattle.mi_replay.specs.InOrder.{operations_of}
use Rattle.mi_replay.specs.Rounds.{Eased, Eases}
use Rattle.mi_replay.specs.Tables.{ItemsMade}
use Rattle.mi_replay.proofs.TableOpening.{items_more, items_none}
use Rattle.mi_replay.proofs.TableRounds.{eased_more, eased_none, eases}
use Rattle.mi_replay.proofs.tables.Table.round.Goals as goal

pub loop-number-init : goal.loop-number-init
loop-number-init g c =
    let t = c.args.self.now in
    record {
      made = items_none c.args.scripts.now t.solo.state t.seats.items t.splitter c.requires.waits;
      eased = eased_none c.args.scripts.now t.solo.state t.seats.items;
      spends = λ first was. was;
    }

pub session_operation-requires-clause-space : goal.session_operation-requires-clause-space
session_operation-requires-clause-space g c = c.requires.space ∙ ap metric_space (sym c.loop-number.invariant.made.settings)

pub session_operation-requires-clause-pivots : goal.session_operation-requires-clause-pivots
session_operation-requires-clause-pivots g c = c.requires.pivots ∙ ap (λ (k : Configuration). k.pivots) (sym c.loop-number.invariant.made.settings)

pub loop-number-preserved : goal.loop-number-preserved
loop-number-preserved g c =
    let scripts = c.args.scripts.now in
    let first = c.args.self.now in
    let m = c.loop-number.self in
    let t = c.session_operation.new.self in
    let n = c.loop-number.number in
    let next : suc n ≡ n + 1 = omega arith in
    record {
      made = subst (λ (k : ℕ). ItemsMade scripts (operations_of k) first.solo.state first.seats.items first.splitter t.solo.state t.seats.items t.splitter) next
          (items_more scripts (operations_of n) (record { actor = Session n; take = Operation } ∷ []) first.solo.state m.solo.state t.solo.state first.seats.items m.seats.items t.seats.items first.splitter m.splitter t.splitter
          c.loop-number.invariant.made c.session_operation.ensures.made);
      eased = eased_more scripts n first.solo.state first.seats.items m.solo.state m.seats.items t.solo.state t.seats.items c.loop-number.invariant.eased c.session_operation.ensures.relieved;
      spends = λ first was. c.session_operation.ensures.spends first (c.loop-number.invariant.spends first was);
    }

pub returns-clause-made : goal.returns-clause-made
returns-clause-made g c =
    let scripts = c.args.scripts.now in
    let first = c.args.self.now in
    let m = c.loop-number.self in
    let t = c.splitter_operation.new.self in
    let all : c.loop-number.number ≡ length scripts = omega (arith, c.loop-number.auto.number-end, c.loop-number-test.false) in
    let made : ItemsMade scripts (operations_of (length scripts)) first.solo.state first.seats.items first.splitter m.solo.state m.seats.items m.splitter =
    subst (λ (n : ℕ). ItemsMade scripts (operations_of n) first.solo.state first.seats.items first.splitter m.solo.state m.seats.items m.splitter) all c.loop-number.invariant.made in
    items_more scripts (operations_of (length scripts)) (record { actor = Splitter; take = Operation } ∷ []) first.solo.state m.solo.state t.solo.state first.seats.items m.seats.items t.seats.items first.splitter m.splitter t.splitter
    made c.splitter_operation.ensures.made

pub returns-clause-eases : goal.returns-clause-eases
returns-clause-eases g c =
    let scripts = c.args.scripts.now in
    let first = c.args.self.now in
    let m = c.loop-number.self in
    let t = c.splitter_operation.new.self in
    let all : c.loop-number.number ≡ length scripts = omega (arith, c.loop-number.auto.number-end, c.loop-number-test.false) in
    let eased : Eased scripts (length scripts) first.solo.state first.seats.items m.solo.state m.seats.items =
    subst (λ (n : ℕ). Eased scripts n first.solo.state first.seats.items m.solo.state m.seats.items) all c.loop-number.invariant.eased in
    let done : Eases scripts first.solo.state first.seats.items first.splitter t.solo.state m.seats.items t.splitter =
    eases scripts first.solo.state first.seats.items m.seats.items first.splitter m.solo.state t.solo.state t.splitter c.requires.waits.count c.splitter_operation.ensures.made.waits.actors eased c.splitter_operation.ensures.rested in
    subst (λ (x : List Seat). Eases scripts first.solo.state first.seats.items first.splitter t.solo.state x t.splitter) (sym c.splitter_operation.ensures.same) done

pub returns-clause-spends : goal.returns-clause-spends
returns-clause-spends g c = λ first was. c.splitter_operation.ensures.spends c.loop-number.steps first (c.loop-number.invariant.spends first was)
