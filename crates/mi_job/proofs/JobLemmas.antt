-- A job, from section to section.
use Rattle.std.proofs.Common.{◌≡◌, ℕ, [], ◌∷◌, Bool, true, false, Some, None, Option, refl, rules, sym, ap, ◌∙◌, subst, inl, inr}
use Rattle.std.specs.Prelude.{◌⊎◌}
use Rattle.mi_base.specs.declared.records.Op.{Op}
use Rattle.mi_base.specs.declared.records.Reply.{Reply}
use Rattle.mi_base.specs.Configuration.{space_of}
use Rattle.mi_base.specs.History.{Entered}
use Rattle.mi_base.specs.Permutations.{begins, distances, permutation_of}
use Rattle.mi_legal.specs.Legal.{accepted_update}
use Rattle.mi_legal.specs.Want.{is_memory}
use Rattle.mi_tree.specs.Births.{Born}
use Rattle.mi_world.specs.declared.answers.Record.{Record}
use Rattle.mi_world.specs.View.{View, Agrees}
use Rattle.mi_blink.specs.declared.turns.Turn.{Turn}
use Rattle.mi_blink.specs.declared.turns.Turn.TheVariants as turn
use Rattle.mi_blink.proofs.PostLemmas.{owes_only_stays}
use Rattle.mi_update.specs.declared.delete.DeleteOp.{DeleteOp}
use Rattle.mi_update.specs.declared.endings.Ending.{Ending}
use Rattle.mi_update.specs.declared.endings.Ending.TheVariants as ending
use Rattle.mi_update.specs.Deleting as deleting
use Rattle.mi_update.specs.Endings.{IsRight, reply_of}
use Rattle.mi_update.specs.Stepping as stepping
use Rattle.mi_update.proofs.FinishLemmas.{delete_finishes}
use Rattle.mi_job.specs.declared.inserts.InsertJob.{InsertJob}
use Rattle.mi_job.specs.declared.job.Operation.TheVariants.{Insert, Delete}
use Rattle.mi_job.specs.declared.turns.JobTurn.{JobTurn}
use Rattle.mi_job.specs.declared.turns.JobTurn.TheVariants.{More, Held, Done}
use Rattle.mi_job.specs.Claims.{IsHeld}
use Rattle.mi_job.specs.Inserts as inserts
use Rattle.mi_job.specs.Inserts.{EarlyUnless}
use Rattle.mi_job.specs.Jobs.{Enters, EntersNone, Outcome, Tells, Turned, where_entered}

where_is : (n : Option ℕ) (e : Entered) → stepping.added n e ≡ where_entered n (e ∷ [])
where_is None e = refl
where_is (Some n) e = refl

early_told : (e : Ending) (early : Bool) (w : View) → EarlyUnless e early w → is_memory (reply_of e) ≡ false → w.early ≡ early
early_told (ending.Stored n) early w h k = h
early_told (ending.Removed n) early w h k = h
early_told (ending.Present p) early w h k = h
early_told (ending.Absent p) early w h k = h
early_told (ending.Full n) early w h k = h
early_told (ending.NoPages n) early w h k = h
early_told ending.Memory early w h k = cc

same_right : (o o' : Op) (n n' : ℕ) (w : View) (y : Reply) → o ≡ o' → n ≡ n' → IsRight o n w y → IsRight o' n' w y
same_right o o' n n' w y e k h = subst (λ m. IsRight o' m w y) k (subst (λ q. IsRight q n w y) e h)

same_accepted : (o o' : Op) (n n' : ℕ) (w : View) (y : Reply) → o ≡ o' → n ≡ n' → accepted_update w.actor n' o' y ≡ accepted_update w.actor n o y
same_accepted o o' n n' w y e k = ap (λ q. accepted_update w.actor n' q y) (sym e) ∙ ap (λ m. accepted_update w.actor m o y) (sym k)

-- an insert
module _ (i j : InsertJob) (b : Bool) (v w : View) where
  insert_enters : (a : JobTurn) → inserts.Turned i v a j w → Enters (record { operation = Insert i; begun = b }) v (record { operation = Insert j; begun = true }) w
      ⊎ EntersNone (record { operation = Insert i; begun = b }) v (record { operation = Insert j; begun = true }) w
  insert_enters a t = elim t.advances.enters [
    | inl e ↦ inl (record { before = e.before; after = e.after; update = refl; own = e.own })
    | inr e ↦ inr (record { number = e.number; own = e.own })
  ]

  insert_outcome : (a : JobTurn) → inserts.Turned i v a j w → Outcome (record { operation = Insert i; begun = b }) v a (record { operation = Insert j; begun = true }) w
  insert_outcome More t = (record { operation = t.outcome.0 }, λ q. absurd (search rules), t.outcome.1)
  insert_outcome Held t = (record { operation = t.outcome.0 }, ap Insert t.outcome.1, t.outcome.2)
  insert_outcome (Done y) t =
      let f = t.outcome.0 in
      let o = t.outcome in
      record {
        right = same_right _ _ _ _ w y t.asked_is t.op_is f.right;
        not_before = f.not_before;
        pinned = λ q. absurd (search rules);
        spent = tt;
        number_is = f.number_is;
        accepted_is = same_accepted _ _ _ _ w y t.asked_is t.op_is ∙ f.accepted_is ∙ where_is _ _;
        none_pending = λ p. rw (o.2, o.5) refl;
        early_is = λ early h k. early_told o.3 early w (rw (o.2, o.5) at h) (rw o.4 at k);
        claims = o.1;
      }

  pub insert_turned : (a : JobTurn) → inserts.Turned i v a j w → Turned (record { operation = Insert i; begun = b }) v a (record { operation = Insert j; begun = true }) w
  insert_turned a t = record {
    asked_is = t.asked_is;
    number_is = t.op_is;
    has_begun = refl;
    later = t.later;
    actors = t.actors;
    makes = t;
    enters = insert_enters a t;
    not_before = t.advances.not_before;
    owes = t.owes;
    early_is = t.early_is;
    outcome = insert_outcome a t;
  }

-- a delete
module _ (i j : DeleteOp) (b : Bool) (v w : View) (ready : deleting.Ready i v) (pin : v.pin ≡ None) where
  delete_enters : (told : Turn) → deleting.Turned i v told j w → Enters (record { operation = Delete i; begun = b }) v (record { operation = Delete j; begun = true }) w
      ⊎ EntersNone (record { operation = Delete i; begun = b }) v (record { operation = Delete j; begun = true }) w
  delete_enters told t = elim t.advances.enters [
    | inl e ↦ inl (record { before = e.before; after = e.after; update = refl; own = e.own })
    | inr e ↦ inr (record { number = e.number; own = e.own })
  ]

  delete_asked : (told : Turn) → deleting.Turned i v told j w → deleting.asked j ≡ deleting.asked i
  delete_asked told t = rw t.id_is refl

  -- the leaf that was found held is that of the live object
  held_leaf : (kept : Option Record) (found : Record) → kept ≡ Some found → i.kept ≡ kept → stepping.HeldLeaf (deleting.perm_in i) w → Agrees w.settings w.seen i.id kept
      → IsHeld (deleting.asked i) w
  held_leaf None found is same h a = absurd (search rules)
  held_leaf (Some r) found is same h a =
      let old : Born = a.1.0 in
      let perm : deleting.perm_in i ≡ permutation_of (distances (space_of w.settings) old.vector) = ap deleting.perm_of same ∙ ap permutation_of a.1.3 in
      inr (old, a.1.1, record { prefix = h.prefix; belongs = subst (λ p. begins h.prefix p ≡ true) perm h.begun; other = h.other; leaf = h.leaf })

  held : deleting.StandsStill i j w → deleting.FindsHeld i w → IsHeld (deleting.asked i) w
  held s (inl h) = inl h.1
  held s (inr h) =
      let prepared = subst (λ x. deleting.StateIsReady x i v) h.0 ready.state in
      held_leaf i.kept prepared.0.knows.found prepared.0.knows.is refl h.1 h.2

  delete_outcome : (told : Turn) (answer : JobTurn) → deleting.Turned i v told j w → Tells told answer
      → Outcome (record { operation = Delete i; begun = b }) v answer (record { operation = Delete j; begun = true }) w
  delete_outcome turn.More answer t e = rw e (record { operation = (t.outcome.0, t.apart.pin ∙ pin) }, λ q. absurd (search rules), λ f. t.outcome.1)
  delete_outcome turn.Held answer t e = rw e (record { operation = (t.outcome.ready, t.apart.pin ∙ pin) }, ap Delete t.outcome.same, held t.outcome t.outcome.held)
  delete_outcome (turn.Crowded leaf) answer t e = absurd e
  delete_outcome (turn.Done y) answer t e =
      let f = delete_finishes i j v w y t in
      rw e (record {
        right = same_right _ _ _ _ w y (delete_asked (turn.Done y) t) t.op_is f.right;
        not_before = f.not_before;
        pinned = λ q. absurd (search rules);
        spent = tt;
        number_is = f.number_is;
        accepted_is = same_accepted _ _ _ _ w y (delete_asked (turn.Done y) t) t.op_is ∙ f.accepted_is ∙ where_is _ _;
        none_pending = λ p. refl;
        early_is = λ early h k. h;
        claims = record {
          nothing = record { shard = f.shard; leaf = f.leaf; sweep = t.apart.sweep.sweep ∙ ready.idle; pin = t.apart.pin ∙ pin };
          unsplit = t.apart.split.splitting ∙ ready.unsplit;
        };
      })

  pub delete_turned : (told : Turn) (answer : JobTurn) → deleting.Turned i v told j w → Tells told answer
      → Turned (record { operation = Delete i; begun = b }) v answer (record { operation = Delete j; begun = true }) w
  delete_turned told answer t e = record {
    asked_is = delete_asked told t;
    number_is = t.op_is;
    has_begun = refl;
    later = t.later;
    actors = t.apart.actors;
    makes = (told, t, e);
    enters = delete_enters told t;
    not_before = t.advances.not_before;
    owes = λ owed h. owes_only_stays owed (λ p. false) v w t.later t.owes h;
    early_is = λ early h. t.apart.flags.early ∙ h;
    outcome = delete_outcome told answer t e;
  }
