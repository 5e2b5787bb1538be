-- A sweep from section to section.
use Rattle.std.proofs.Common.{◌≡◌, ℕ, Some, None, refl, sym, ◌∙◌, subst, arith}
use Rattle.mi_tree.specs.declared.answers.Look.{Look}
use Rattle.mi_world.specs.declared.answers.Visit.{Visit}
use Rattle.mi_world.specs.declared.answers.Visit.TheVariants.{Down, Right, Read}
use Rattle.mi_world.specs.View.{View}
use Rattle.mi_world.specs.Boards.{Looks}
use Rattle.mi_world.specs.Pages.{GoesRight}
use Rattle.mi_world.specs.Splits.{Sweeps}
use Rattle.mi_blink.specs.declared.walk.WalkTurn.{WalkTurn}
use Rattle.mi_blink.specs.declared.walk.WalkTurn.TheVariants.{More, Done}
use Rattle.mi_blink.specs.Descents.{Stands}
use Rattle.mi_blink.proofs.DescentLemmas.{stands_down, stands_right, down_less, right_less, descent_longest, falls_by}
use Rattle.mi_split.specs.declared.sweep.SweepOp.{SweepOp}
use Rattle.mi_split.specs.declared.sweep.SweepState.TheVariants.{Looking, Sweeping, Over}
use Rattle.mi_split.specs.Sweeping.{Ready, StateIsReady, Turned, Makes, Outcome, after_sweep}

pub looks : (op : SweepOp) (v w : View) (look : Look) → Ready op v → op.state ≡ Looking → Looks v w look → Turned op v More (record { prefix = op.prefix; state = Sweeping look.root }) w
looks op v w look ready state k = record {
  later = k.later;
  update = k.same.work.update;
  leaf = k.same.work.leaf;
  split = k.same.work.apart.split;
  flags = k.same.work.apart.flags;
  actors = k.same.work.apart.actors;
  pin = k.same.work.apart.pin;
  fresh = k.same.fresh;
  owes = k.same.owes;
  prefix = refl;
  makes = subst (λ s. Makes s v (Sweeping look.root) w) (sym state) (look, k, refl);
  outcome = (
    record {
      given = k.same.work.apart.sweep.sweep ∙ ready.given;
      state = record { named = k.tells.named; above = omega arith; small = rw k.tells.level_is k.tells.low_height; low_is = rw k.tells.low_is (omega arith) };
    },
    rw state (falls_by v w _ _ k.later k.same.fresh (omega (arith, descent_longest w look.root))),
  );
}

module _ (op : SweepOp) (v w : View) (page : ℕ) (ready : Ready op v) (state : op.state ≡ Sweeping page) where
  standing : Stands v page 0 v.swept
  standing = subst (λ s. StateIsReady s v) state ready.state

  sweeps : (answer : Visit) (turn : WalkTurn) → Sweeps v w page answer → Outcome op v turn (record { prefix = op.prefix; state = after_sweep answer }) w
      → Turned op v turn (record { prefix = op.prefix; state = after_sweep answer }) w
  sweeps answer turn k outcome = record {
    later = k.later;
    update = k.update;
    leaf = k.leaf;
    split = k.split;
    flags = k.flags;
    actors = k.actors;
    pin = k.pin;
    fresh = k.fresh;
    owes = k.owes;
    prefix = refl;
    makes = subst (λ s. Makes s v (after_sweep answer) w) (sym state) (answer, k, refl);
    outcome = outcome;
  }

  pub sweeps_down : (q : ℕ) → Sweeps v w page (Down q) → Turned op v More (record { prefix = op.prefix; state = Sweeping q }) w
  sweeps_down q k = sweeps (Down q) More k (
    record {
      given = k.answer.0.sweep ∙ ready.given;
      state = subst (λ key. Stands w q 0 key) (sym k.answer.0.swept) (stands_down v w page q 0 v.swept standing.small k.answer.1);
    },
    rw state (falls_by v w _ _ k.later k.fresh (down_less v w page q 0 v.swept standing.small k.answer.1)),
  )

  pub sweeps_right : (q : ℕ) → Sweeps v w page (Right q) → Turned op v More (record { prefix = op.prefix; state = Sweeping q }) w
  sweeps_right q k = sweeps (Right q) More k (
    record {
      given = k.answer.0.sweep ∙ ready.given;
      state = subst (λ key. Stands w q 0 key) (sym k.answer.0.swept) (stands_right v w page q 0 v.swept standing.small k.answer.1);
    },
    rw state (falls_by v w _ _ k.later k.fresh (right_less v w page q 0 v.swept k.answer.1)),
  )

  pub sweeps_next : (q : ℕ) → Sweeps v w page (Read (Some q)) → Turned op v More (record { prefix = op.prefix; state = Sweeping q }) w
  sweeps_next q k =
      let r = k.answer.2 in
      let d : GoesRight v w page q 0 (w.low q) = record { reached = k.answer.1.reached; named = r.0; level_is = r.1 ∙ sym k.answer.1.reached; low_is = omega arith; after = r.3; small = r.4; high_is = r.5 } in
      sweeps (Read (Some q)) More k (
        record {
          given = k.answer.0.0 ∙ ready.given;
          state = subst (λ key. Stands w q 0 key) (sym k.answer.0.1) (stands_right v w page q 0 (w.low q) standing.small d);
        },
        rw state (falls_by v w _ _ k.later k.fresh (right_less v w page q 0 (w.low q) d)),
      )

  pub sweeps_last : Sweeps v w page (Read None) → Turned op v Done (record { prefix = op.prefix; state = Over }) w
  sweeps_last k = sweeps (Read None) Done k (refl, k.answer.0)
