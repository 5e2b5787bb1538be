-- The splitter, from section to section.
use Rattle.std.proofs.Common.{◌≡◌, ℕ, ◌+◌, ◌<◌, ◌≤◌, Bool, true, false, IsTrue, Some, None, Option, refl, sym, ap, ◌∙◌, subst, arith, rules, inl, inr}
use Rattle.mi_tree.specs.declared.answers.Work.TheVariants as work
use Rattle.mi_tree.specs.declared.outcomes.Leaf.{Leaf}
use Rattle.mi_world.specs.Boards.{GivesWork}
use Rattle.mi_world.specs.View.{View}
use Rattle.mi_blink.specs.Descents.{longest}
use Rattle.mi_blink.proofs.DescentLemmas.{budget_stays}
use Rattle.mi_blink.proofs.PostLemmas.{owes_only_stays}
use Rattle.mi_split.specs.declared.split.SplitOp.{SplitOp}
use Rattle.mi_split.specs.declared.split.SplitTurn.TheVariants as divided
use Rattle.mi_split.specs.declared.sweep.SweepOp.{SweepOp}
use Rattle.mi_split.specs.Splitting as splitting
use Rattle.mi_split.specs.Splitting.{copy_most, split_most}
use Rattle.mi_split.specs.Sweeping as sweeping
use Rattle.mi_split.proofs.BoundLemmas.{split_small, sweep_small}
use Rattle.mi_split.proofs.OthersLemmas.{split_begins, sweep_begins}
use Rattle.mi_job.specs.declared.care.CareTurn.TheVariants as turn
use Rattle.mi_job.specs.declared.care.Task.TheVariants.{Sweep, Split}
use Rattle.mi_job.specs.Caring.{Ready, Turned}

-- a sweep has fewer sections than a split
pub sweep_below : longest + 1 < split_most
unfolding split_most
sweep_below = omega arith

-- the actor has nothing under way
module _ (v w : View) (ready : Ready (record { task = None }) v) where
  begins_early : (given : Rattle.mi_tree.specs.declared.answers.Work.Work) → GivesWork v w given → (early : Bool) → v.early ≡ early → w.early ≡ early
  begins_early given k early h = k.flags.early ∙ h

  pub begins_sweep : (prefix : Rattle.std.proofs.Common.List ℕ) (sweep : SweepOp) → sweeping.Begun sweep prefix → GivesWork v w (work.Sweep prefix)
      → Turned (record { task = None }) v turn.More (record { task = Some (Sweep sweep) }) w
  begins_sweep prefix sweep b k = record {
    later = k.later;
    update = k.update;
    actors = k.actors;
    makes = (work.Sweep prefix, k, (refl, sweep, refl, b));
    keeps = λ owed early h. (owes_only_stays owed (λ p. false) v w k.later k.owes h.0, k.flags.early ∙ h.1);
    outcome = (
      record {
        task = (sweep_begins sweep prefix w b k.answer.1, k.answer.3.leaf ∙ ready.task.0, k.split.splitting ∙ ready.task.2);
        shard = k.update.shard ∙ ready.shard;
        pin = k.pin ∙ ready.pin;
      },
      λ f. inr (budget_stays v w k.later k.fresh, omega (arith, sweep_small sweep w, sweep_below)),
    );
  }

  pub begins_split : (leaf : Leaf) (split : SplitOp) → splitting.Begun split leaf → GivesWork v w (work.Split leaf)
      → Turned (record { task = None }) v turn.More (record { task = Some (Split split) }) w
  begins_split leaf split b k =
      let at_once = split_begins split leaf w b k.answer.2 k.answer.3 k.answer.5 in
      record {
        later = k.later;
        update = k.update;
        actors = k.actors;
        makes = (work.Split leaf, k, (refl, split, refl, b));
        keeps = λ owed early h. record { owes = rw b.state_is (owes_only_stays owed (λ p. false) v w k.later k.owes h.0); early_is = rw b.state_is (k.flags.early ∙ h.1) };
        outcome = (
          record { task = (at_once, k.answer.4.sweep ∙ ready.task.1); shard = k.update.shard ∙ ready.shard; pin = k.pin ∙ ready.pin },
          λ f. inr (budget_stays v w k.later k.fresh, split_small split w at_once),
        );
      }

-- a split that goes on
pub splits_on : (s s' : SplitOp) (v w : View) → Ready (record { task = Some (Split s) }) v → splitting.Turned s v divided.More s' w
    → Turned (record { task = Some (Split s) }) v turn.More (record { task = Some (Split s') }) w
splits_on s s' v w ready t = record {
  later = t.later;
  update = t.update;
  actors = t.actors;
  makes = (divided.More, s', t, (refl, refl));
  keeps = t.since;
  outcome = (record { task = (t.outcome.0, t.sweep.sweep ∙ ready.task.1); shard = t.update.shard ∙ ready.shard; pin = t.pin ∙ ready.pin }, t.outcome.1);
}
