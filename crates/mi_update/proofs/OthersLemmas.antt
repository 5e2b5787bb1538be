-- Inserts and deletes before their first section, and while others act.
use Rattle.std.proofs.Common.{◌≡◌, ℕ, ◌≤◌, ◌∙◌, List, Option, None, Some, length, Bool, true, false, IsTrue, sym, ap, refl, subst, arith, ℤ, append-nil}
use Rattle.std.specs.Prelude.{is_some, IsSome, ◌||◌}
use Rattle.mi_base.specs.History.{Entered}
use Rattle.mi_world.specs.declared.answers.Record.{Record}
use Rattle.mi_world.specs.View.{View, Others, Later, SameUpdate}
use Rattle.mi_blink.specs.declared.post.Post.{Post}
use Rattle.mi_blink.proofs.OthersLemmas as posts
use Rattle.mi_blink.proofs.PostLemmas.{owes_only_stays}
use Rattle.mi_update.specs.declared.delete.DeleteOp.{DeleteOp}
use Rattle.mi_update.specs.declared.delete.DeleteState.{DeleteState}
use Rattle.mi_update.specs.declared.delete.DeleteState.TheVariants as at
use Rattle.mi_update.specs.declared.insert.InsertOp.{InsertOp}
use Rattle.mi_update.specs.declared.insert.InsertState.{InsertState}
use Rattle.mi_update.specs.declared.insert.InsertState.TheVariants.{Begin, Looking, Reserving, Claiming, Committing, Splitting, Allotting, Halving, Posting, Unclaiming, Releasing, Over}
use Rattle.mi_update.specs.Deleting as deleting
use Rattle.mi_update.specs.Inserting as inserting
use Rattle.mi_update.specs.Stepping.{HoldsShard}
use Rattle.mi_update.specs.Inserting.{Ready, Seeks, StateIsReady, PostIsReady, Since, Waits, asked}
use Rattle.mi_update.proofs.DeleteLemmas as deletes
use Rattle.mi_update.proofs.InsertLemmas.{fits_stay, prepared_stays, seeking_stays}
use Rattle.mi_update.proofs.SteppingLemmas.{answered_stays, ends_stay, seen_more}

-- an insert
module _ (op : InsertOp) (v w : View) (o : Others v w) where
  shard_stays : HoldsShard op.id v → HoldsShard op.id w
  shard_stays h = record { shard = o.same.work.update.shard ∙ h.shard; leaf = o.same.work.leaf.leaf ∙ h.leaf }

  seeks_stay : (page : ℕ) → Seeks op v page → Seeks op w page
  seeks_stay page h = seeking_stays op.id op.root op.dists.items op.leaf v w page o.later o.same.work.leaf.leaf o.same.work.update h

  post_stays : (post : Option Post) → PostIsReady post v → PostIsReady post w
  post_stays None h = h
  post_stays (Some p) h = posts.ready_stays p v w o h

  state_stays : (s : InsertState) → StateIsReady s op v → StateIsReady s op w
  state_stays Begin h = (o.same.work.update.shard ∙ h.0, o.same.work.leaf.leaf ∙ h.1)
  state_stays Looking h = (shard_stays h.0, subst (λ (f : ℕ → Option Record). IsSome (f op.id)) (sym o.same.work.update.records) h.1)
  state_stays Reserving h = (shard_stays h.0, ap (λ (f : ℕ → Option Record). f op.id) o.same.work.update.records ∙ h.1)
  state_stays Claiming h = (prepared_stays op.id op.root v w o.later o.same.work.update h.0, o.same.work.leaf.leaf ∙ h.1)
  state_stays (Committing page) h = seeks_stay page h
  state_stays Splitting h = h
  state_stays (Allotting page) h = (seeks_stay page h.0, o.later.level page h.0.seeks.named ∙ h.1, ap is_some o.same.fresh ∙ h.2)
  state_stays (Halving page) h = (seeks_stay page h.0, o.later.level page h.0.seeks.named ∙ h.1, ap is_some o.same.fresh ∙ h.2)
  state_stays (Posting page) h = (seeks_stay page h.0, post_stays op.post h.1)
  state_stays (Unclaiming e) h = (o.same.work.update.shard ∙ h.0, rw o.same.work.leaf.leaf h.1, answered_stays (asked op) op.op v w e o.later h.2)
  state_stays (Releasing e) h = (shard_stays h.0, answered_stays (asked op) op.op v w e o.later h.1)
  state_stays (Over e) h = h

  pub insert_stays : Ready op v → Ready op w
  insert_stays h = record { fits = fits_stay op.vector op.dists.items v w o.later o.same.work.apart h.fits; state = state_stays op.state h.state }

  insert_since_at : (s : InsertState) → StateIsReady s op v → inserting.since_at s v.seen ≤ inserting.since_at s w.seen
  insert_since_at Begin h = seen_more v w o.later
  insert_since_at Looking h = seen_more v w o.later
  insert_since_at Reserving h = seen_more v w o.later
  insert_since_at Claiming h = seen_more v w o.later
  insert_since_at (Committing page) h = seen_more v w o.later
  insert_since_at Splitting h = seen_more v w o.later
  insert_since_at (Allotting page) h = seen_more v w o.later
  insert_since_at (Halving page) h = seen_more v w o.later
  insert_since_at (Posting page) h = seen_more v w o.later
  insert_since_at (Unclaiming e) h = ends_stay (asked op) op.op v w o.later e h.2
  insert_since_at (Releasing e) h = ends_stay (asked op) op.op v w o.later e h.1
  insert_since_at (Over e) h = absurd h

  -- the position that the reply will have never falls
  pub insert_since_rises : Ready op v → inserting.since_in op v ≤ inserting.since_in op w
  insert_since_rises h = insert_since_at op.state h.state

  pub insert_since_stays : (own : List Entered) (from : ℕ) (owed : ℕ → Bool) → Ready op v → Since own from owed op v → Since own from owed op w
  insert_since_stays own from owed h s = record {
    own_is = rw (o.same.work.update.own, o.later.actor) s.own_is;
    reaches = omega (arith, s.reaches, insert_since_rises h);
    owes = owes_only_stays owed (inserting.pending_in op.state op.post) v w o.later o.same.owes s.owes;
  }

-- what a split of the claimed leaf leaves of an insert that waits for it
pub waits_stay : (op : InsertOp) (v w : View) → Later v w → SameUpdate v w → w.sweep ≡ v.sweep → Waits op v → Waits op w
waits_stay op v w l u e h = record {
  measured = rw l.settings h.measured;
  fits = rw l.settings h.fits;
  idle = e ∙ h.idle;
  prepared = prepared_stays op.id op.root v w l u h.prepared;
  few = l.few h.few;
  state_is = h.state_is;
}

or_none : (b : Bool) → IsTrue b → IsTrue (b || false)
or_none true h = refl
or_none false h = cc

pub insert_begins : (op : InsertOp) (id : ℕ) (vector : List ℤ) (dists : List ℕ) (number : ℕ) (v : View) → inserting.Begun op id vector dists number → inserting.Fits vector dists v
    → v.shard ≡ None → v.leaf ≡ None → Ready op v
insert_begins op id vector dists number v b f shard leaf = record {
  fits = rw (b.vector_is, b.dists_are) f;
  state = subst (λ s. StateIsReady s op v) (sym b.state_is) (shard, leaf);
}

pub insert_since_begins : (op : InsertOp) (id : ℕ) (vector : List ℤ) (dists : List ℕ) (number : ℕ) (v : View) → inserting.Begun op id vector dists number → Since v.own (length v.seen) v.owes op v
insert_since_begins op id vector dists number v b = record {
  own_is = rw b.state_is (sym (append-nil v.own));
  reaches = rw b.state_is (omega arith);
  owes = rw b.state_is (λ f p h. or_none (v.owes p) h);
}

-- a delete
module _ (op : DeleteOp) (v w : View) (o : Others v w) where
  delete_holds : HoldsShard op.id v → HoldsShard op.id w
  delete_holds h = record { shard = o.same.work.update.shard ∙ h.shard; leaf = o.same.work.leaf.leaf ∙ h.leaf }

  delete_prepared : deleting.Prepared op.id op.root op.kept v → deleting.Prepared op.id op.root op.kept w
  delete_prepared h = deletes.prepared_stays op.id op.root op.kept v w o.later o.same.work.update h

  delete_state : (s : DeleteState) → deleting.StateIsReady s op v → deleting.StateIsReady s op w
  delete_state at.Begin h = (o.same.work.update.shard ∙ h.0, o.same.work.leaf.leaf ∙ h.1)
  delete_state at.Looking h = (delete_holds h.0, ap (λ (f : ℕ → Option Record). f op.id) o.same.work.update.records ∙ h.1)
  delete_state at.Reserving h = (deletes.knows_stays op.id op.kept v w o.same.work.update h.0, o.same.work.leaf.leaf ∙ h.1)
  delete_state at.Claiming h = (delete_prepared h.0, o.same.work.leaf.leaf ∙ h.1)
  delete_state (at.Committing page) h = record {
    prepared = delete_prepared h.prepared;
    claimed = rw o.same.work.leaf.leaf h.claimed;
    named = o.later.named page h.named;
    low_is = rw (o.later.low page h.named, o.later.settings, o.same.work.leaf.leaf, o.same.work.update.records) h.low_is;
    small = rw (o.later.level page h.named) h.small;
  }
  delete_state (at.Unclaiming e) h = (o.same.work.update.shard ∙ h.0, rw o.same.work.leaf.leaf h.1, answered_stays (deleting.asked op) op.op v w e o.later h.2, h.3)
  delete_state (at.Releasing e) h = (delete_holds h.0, answered_stays (deleting.asked op) op.op v w e o.later h.1)
  delete_state (at.Over e) h = h

  pub delete_stays : deleting.Ready op v → deleting.Ready op w
  delete_stays h = record { idle = o.same.work.apart.sweep.sweep ∙ h.idle; unsplit = o.same.work.apart.split.splitting ∙ h.unsplit; state = delete_state op.state h.state }

  delete_since_at : (s : DeleteState) → deleting.StateIsReady s op v → deleting.since_at s v.seen ≤ deleting.since_at s w.seen
  delete_since_at at.Begin h = seen_more v w o.later
  delete_since_at at.Looking h = seen_more v w o.later
  delete_since_at at.Reserving h = seen_more v w o.later
  delete_since_at at.Claiming h = seen_more v w o.later
  delete_since_at (at.Committing page) h = seen_more v w o.later
  delete_since_at (at.Unclaiming e) h = ends_stay (deleting.asked op) op.op v w o.later e h.2
  delete_since_at (at.Releasing e) h = ends_stay (deleting.asked op) op.op v w o.later e h.1
  delete_since_at (at.Over e) h = absurd h

  -- the position that the reply will have never falls
  pub delete_since_rises : deleting.Ready op v → deleting.since_in op v ≤ deleting.since_in op w
  delete_since_rises h = delete_since_at op.state h.state

  pub delete_since_stays : (own : List Entered) (from : ℕ) → deleting.Ready op v → deleting.Since own from op v → deleting.Since own from op w
  delete_since_stays own from h s = record {
    own_is = rw (o.same.work.update.own, o.later.actor) s.own_is;
    reaches = omega (arith, s.reaches, delete_since_rises h);
  }

pub delete_begins : (op : DeleteOp) (id number : ℕ) (v : View) → deleting.Begun op id number → v.shard ≡ None → v.leaf ≡ None → v.sweep ≡ None → v.splitting ≡ false → deleting.Ready op v
delete_begins op id number v b shard leaf idle unsplit = record {
  idle = idle;
  unsplit = unsplit;
  state = subst (λ s. deleting.StateIsReady s op v) (sym b.state_is) (shard, leaf);
}

pub delete_since_begins : (op : DeleteOp) (id number : ℕ) (v : View) → deleting.Begun op id number → deleting.Since v.own (length v.seen) op v
delete_since_begins op id number v b = record {
  own_is = rw b.state_is (sym (append-nil v.own));
  reaches = rw b.state_is (omega arith);
}
