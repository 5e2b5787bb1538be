-- Splits and sweeps begin ready, and stay so while others act.
use Rattle.std.proofs.Common.{◌≡◌, ℕ, ◌∙◌, List, Option, None, Some, is_some, true, false, ap, refl, subst, sym}
use Rattle.mi_tree.specs.declared.outcomes.Leaf.{Leaf}
use Rattle.mi_world.specs.View.{View, Others}
use Rattle.mi_world.specs.Splits.{copied_in, gather_key, next_copy, last_copy}
use Rattle.mi_blink.specs.declared.post.Post.{Post}
use Rattle.mi_blink.specs.Descents.{Stands}
use Rattle.mi_blink.proofs.DescentLemmas.{stands_keeps, root_keeps}
use Rattle.mi_blink.proofs.OthersLemmas as posts
use Rattle.mi_split.specs.declared.split.SplitOp.{SplitOp}
use Rattle.mi_split.specs.declared.split.SplitState.{SplitState}
use Rattle.mi_split.specs.declared.split.SplitState.TheVariants.{Looking, Gathering, Copying, Allotting, Halving, Posting, Publishing, Undoing, GivingUp, Published, GivenUp}
use Rattle.mi_split.specs.declared.sweep.SweepOp.{SweepOp}
use Rattle.mi_split.specs.declared.sweep.SweepState.{SweepState}
use Rattle.mi_split.specs.declared.sweep.SweepState.TheVariants as sweep
use Rattle.mi_split.specs.Splitting.{Begun, Ready, StateIsReady, PostIsReady, MayCopy}
use Rattle.mi_split.specs.Sweeping as sweeping
use Rattle.mi_split.proofs.SplitLemmas.{gathering_stays, gathered_stays, work_gathered, may_copy_stays, next_stays, to_key, why_keeps}

pub split_begins : (op : SplitOp) (leaf : Leaf) (v : View) → Begun op leaf → v.leaf ≡ Some leaf.prefix → v.wanted ≡ true → v.splitting ≡ false → Ready op v
split_begins op leaf v b claimed wanted unsplit = record {
  claimed = rw b.leaf_is claimed;
  state = subst (λ s. StateIsReady s op.root op.post v) (sym b.state_is) (record { leaf = leaf.prefix; leaf_is = claimed; wanted = wanted }, unsplit);
}

pub sweep_begins : (op : SweepOp) (prefix : List ℕ) (v : View) → sweeping.Begun op prefix → v.sweep ≡ Some prefix → sweeping.Ready op v
sweep_begins op prefix v b given = record { given = rw b.prefix_is given; state = rw b.state_is tt }

module _ (v w : View) (o : Others v w) where
  copied_same : copied_in w ≡ copied_in v
  copied_same = rw (o.same.work.apart.split.splitting, o.same.work.apart.split.copied) refl

  key_same : gather_key w ≡ gather_key v
  key_same = rw (o.same.work.apart.split.splitting, o.same.work.apart.split.mark, o.later.settings, o.same.work.leaf.leaf) refl

  copy_stays : (root : ℕ) → MayCopy root v → MayCopy root w
  copy_stays root h = may_copy_stays v w root o.later o.same.work.leaf (work_gathered v w o.same.work) o.same.work.apart.split.copied h

  at_stays : (p : ℕ) → Stands v p 0 (next_copy v) → Stands w p 0 (next_copy w)
  at_stays p h = to_key w p (next_copy v) (next_copy w) (next_stays v w o.same.work.apart.split.copies o.same.work.apart.split.copied) (stands_keeps v w p 0 (next_copy v) o.later h)

  last_same : last_copy w ≡ last_copy v
  last_same = rw (o.same.work.apart.split.copies, o.same.work.apart.split.copied) refl

  post_stays : (post : Option Post) → PostIsReady post v → PostIsReady post w
  post_stays None h = h
  post_stays (Some p) h = posts.ready_stays p v w o h

  state_stays : (s : SplitState) (root : ℕ) (post : Option Post) → StateIsReady s root post v → StateIsReady s root post w
  state_stays Looking root post h = (gathering_stays v w o.same.work.leaf h.0, o.same.work.apart.split.splitting ∙ h.1)
  state_stays (Gathering p) root post h =
      (gathering_stays v w o.same.work.leaf h.0, copied_same ∙ h.1, to_key w p (gather_key v) (gather_key w) key_same (stands_keeps v w p 0 (gather_key v) o.later h.2), root_keeps v w root o.later h.3)
  state_stays (Copying p) root post h = (copy_stays root h.0, at_stays p h.1)
  state_stays (Allotting p) root post h = (copy_stays root h.0, at_stays p h.1, o.later.level p h.1.named ∙ h.2, ap is_some o.same.fresh ∙ h.3)
  state_stays (Halving p) root post h = (copy_stays root h.0, at_stays p h.1, o.later.level p h.1.named ∙ h.2, ap is_some o.same.fresh ∙ h.3)
  state_stays (Posting p) root post h = (copy_stays root h.0, at_stays p h.1, post_stays post h.2)
  state_stays Publishing root post h =
      let s = o.same.work.apart.split in
      (gathered_stays v w o.same.work.leaf (work_gathered v w o.same.work) h.0, rw (s.copied, s.copies) h.1, rw s.copies h.2, root_keeps v w root o.later h.3)
  state_stays (Undoing p why) root post h =
      let s = o.same.work.apart.split in (
        record { splitting = s.splitting ∙ h.0.splitting; some = rw s.copied h.0.some; few = rw s.copied h.0.few },
        to_key w p (last_copy v) (last_copy w) last_same (stands_keeps v w p 0 (last_copy v) o.later h.1),
        why_keeps why v w o.later h.2,
        root_keeps v w root o.later h.3,
      )
  state_stays (GivingUp why) root post h = (copied_same ∙ h.0, why_keeps why v w o.later h.1)
  state_stays Published root post h = h
  state_stays (GivenUp why) root post h = h

  sweeping_stays : (s : SweepState) → sweeping.StateIsReady s v → sweeping.StateIsReady s w
  sweeping_stays sweep.Looking h = tt
  sweeping_stays (sweep.Sweeping p) h = to_key w p v.swept w.swept o.same.work.apart.sweep.swept (stands_keeps v w p 0 v.swept o.later h)
  sweeping_stays sweep.Over h = h

pub split_stays : (op : SplitOp) (v w : View) → Others v w → Ready op v → Ready op w
split_stays op v w o h = record { claimed = o.same.work.leaf.leaf ∙ h.claimed; state = state_stays v w o op.state op.root op.post h.state }

pub sweep_stays : (op : SweepOp) (v w : View) → Others v w → sweeping.Ready op v → sweeping.Ready op w
sweep_stays op v w o h = record { given = o.same.work.apart.sweep.sweep ∙ h.given; state = sweeping_stays v w o op.state h.state }
