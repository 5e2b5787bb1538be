-- How inserts and deletes end, and which leaves they found held.
use Rattle.std.proofs.Common.{◌≡◌, ℕ, ◌≤◌, ◌==◌, ◌++◌, List, [], ◌∷◌, Bool, true, false, cond, Some, None, Option, MatchOption, refl, sym, ap, ◌∙◌, subst, arith, rules}
use Rattle.std.specs.List.{find}
use Rattle.std.proofs.lemmas.Bool.{eqb-true}
use Rattle.mi_base.specs.declared.records.LogEvent.{LogEvent}
use Rattle.mi_base.specs.declared.records.Reply.{Reply}
use Rattle.mi_base.specs.Configuration.{space_of}
use Rattle.mi_base.specs.History.{Entered, updates_of}
use Rattle.mi_base.specs.Permutations.{begins, distances, permutation_of}
use Rattle.mi_tree.specs.Births.{Born, born, object_born}
use Rattle.mi_legal.specs.Legal.{accepted_update, reach}
use Rattle.mi_world.specs.declared.answers.Record.{Record}
use Rattle.mi_tree.specs.Placing.{grid_under}
use Rattle.mi_world.specs.View.{View, Agrees}
use Rattle.mi_blink.specs.declared.turns.Turn.TheVariants as turn
use Rattle.mi_blink.specs.Posting.{OwesOnly}
use Rattle.mi_update.specs.declared.endings.Ending.{Ending}
use Rattle.mi_update.specs.declared.endings.Ending.TheVariants.{Stored, Removed, Present, Absent, Full, NoPages, Memory}
use Rattle.mi_update.specs.declared.delete.DeleteOp.{DeleteOp}
use Rattle.mi_update.specs.declared.delete.DeleteState.TheVariants.{Claiming}
use Rattle.mi_update.specs.declared.insert.InsertOp.{InsertOp}
use Rattle.mi_update.specs.Deleting as deleting
use Rattle.mi_update.specs.Endings.{Answered, events_of, number_of, reply_of}
use Rattle.mi_update.specs.Inserting as inserting
use Rattle.mi_update.specs.Stepping.{BeginsObject, Ended, Finishes, HeldLeaf, added, entry_of, number_told}
use Rattle.mi_update.proofs.DeleteLemmas as deletes
use Rattle.mi_update.proofs.InsertLemmas as inserts

told_of : (e : Ending) → number_told (reply_of e) ≡ number_of e
told_of (Stored n) = refl
told_of (Removed n) = refl
told_of (Present p) = refl
told_of (Absent p) = refl
told_of (Full n) = refl
told_of (NoPages n) = refl
told_of Memory = refl

-- the position of a reply has the events that its ending counts
reach_of : (e : Ending) (log : List LogEvent) (from : ℕ) → from ≤ events_of e log → MatchOption (reach log (reply_of e)) (Unit {0}) (λ n. from ≤ n)
reach_of (Stored n) log from h = h
reach_of (Removed n) log from h = h
reach_of (Present p) log from h = h
reach_of (Absent p) log from h = h
reach_of (Full n) log from h = tt
reach_of (NoPages n) log from h = tt
reach_of Memory log from h = tt

delete_accepts : (op : DeleteOp) (w : View) (e : Ending) → Answered (deleting.asked op) op.op w e
    → accepted_update w.actor op.op (deleting.asked op) (reply_of e) ≡ added (number_of e) (entry_of w op.op (deleting.made op))
delete_accepts op w (Stored n) h = absurd (h.right w.settings.pages (λ t. refl))
delete_accepts op w (Removed n) h = refl
delete_accepts op w (Present p) h = refl
delete_accepts op w (Absent p) h = refl
delete_accepts op w (Full n) h = refl
delete_accepts op w (NoPages n) h = refl
delete_accepts op w Memory h = refl

insert_accepts : (op : InsertOp) (w : View) (e : Ending) → Answered (inserting.asked op) op.op w e
    → accepted_update w.actor op.op (inserting.asked op) (reply_of e) ≡ added (number_of e) (entry_of w op.op (inserting.made op))
insert_accepts op w (Stored n) h = refl
insert_accepts op w (Removed n) h = absurd (h.right w.settings.pages (λ t. refl))
insert_accepts op w (Present p) h = refl
insert_accepts op w (Absent p) h = refl
insert_accepts op w (Full n) h = refl
insert_accepts op w (NoPages n) h = refl
insert_accepts op w Memory h = refl

pub delete_finishes : (old new : DeleteOp) (v w : View) (y : Reply) → deleting.Turned old v (turn.Done y) new w
    → Finishes (deleting.asked new) new.op (deleting.since_in old v) (deleting.number_in new) (deleting.made new) w y
delete_finishes old new v w y t =
    let o = t.outcome in
    let e : Ending = o.2 in
    let is : y ≡ reply_of e = o.3 in
    let over = o.4 in
    rw is (record {
      right = o.5.right;
      not_before = reach_of e w.seen (deleting.since_in old v) (rw over at t.advances.not_before);
      number_is = rw over (told_of e);
      accepted_is = rw over (delete_accepts new w e o.5);
      shard = o.0;
      leaf = o.1;
    })

pub insert_finishes : (old new : InsertOp) (v w : View) (y : Reply) → inserting.Turned old v (turn.Done y) new w
    → Finishes (inserting.asked new) new.op (inserting.since_in old v) (inserting.number_in new) (inserting.made new) w y
insert_finishes old new v w y t =
    let o = t.outcome in
    let e : Ending = o.2 in
    let is : y ≡ reply_of e = o.3 in
    let over = o.4 in
    rw is (record {
      right = o.5.right;
      not_before = reach_of e w.seen (inserting.since_in old v) (rw over at t.advances.not_before);
      number_is = rw over (told_of e);
      accepted_is = rw over (insert_accepts new w e o.5);
      shard = o.0;
      leaf = o.1;
    })

-- what a reply reaches, it reaches from any earlier event
reaches_more : (n : Option ℕ) (from since : ℕ) → from ≤ since → MatchOption n (Unit {0}) (λ m. since ≤ m) → MatchOption n (Unit {0}) (λ m. from ≤ m)
reaches_more None from since le h = tt
reaches_more (Some m) from since le h = omega (arith, le, h)

pub delete_ends : (own : List Entered) (from : ℕ) (old new : DeleteOp) (v w : View) (y : Reply) → deleting.Turned old v (turn.Done y) new w → deleting.Since own from old v
    → Ended (deleting.asked new) new.op own from w y
delete_ends own from old new v w y t h =
    let f = delete_finishes old new v w y t in
    let s = deletes.since_kept own from old new v w (turn.Done y) t h in
    record {
      right = f.right;
      not_before = reaches_more (reach w.seen y) from (deleting.since_in old v) h.reaches f.not_before;
      own_is = s.own_is ∙ ap (λ es. own ++ es) (sym f.accepted_is);
      shard = f.shard;
      leaf = f.leaf;
    }

pub insert_ends : (own : List Entered) (from : ℕ) (owed : ℕ → Bool) (old new : InsertOp) (v w : View) (y : Reply) → inserting.Turned old v (turn.Done y) new w
    → inserting.Since own from owed old v → Ended (inserting.asked new) new.op own from w y
insert_ends own from owed old new v w y t h =
    let f = insert_finishes old new v w y t in
    let s = inserts.since_kept own from owed old new v w (turn.Done y) t h in
    record {
      right = f.right;
      not_before = reaches_more (reach w.seen y) from (inserting.since_in old v) h.reaches f.not_before;
      own_is = s.own_is ∙ ap (λ es. own ++ es) (sym f.accepted_is);
      shard = f.shard;
      leaf = f.leaf;
    }

pub insert_owes : (own : List Entered) (from : ℕ) (owed : ℕ → Bool) (old new : InsertOp) (v w : View) (y : Reply) → inserting.Turned old v (turn.Done y) new w
    → inserting.Since own from owed old v → OwesOnly owed (λ p. false) w
insert_owes own from owed old new v w y t h =
    let over = t.outcome.4 in
    rw over at (t.owes owed h.owes)

find_passes : {X : Type 0} (p : X → Bool) (xs : List X) (x : X) → find p xs ≡ Some x → p x ≡ true
find_passes p [] x h = absurd (search rules)
find_passes p (y ∷ xs) x h =
    let P : Bool → Type 0 = λ b. p y ≡ b → cond b (Some y) (find p xs) ≡ Some x → p x ≡ true in
    (elim (p y) as P [
      | true ↦ λ e k. let same : y ≡ x = cc in rw same at e
      | false ↦ λ e k. find_passes p xs x k
    ]) refl h

-- the leaf that a delete found held is that of the object which the log has
delete_object : (op : DeleteOp) (w : View) (kept : Option Record) (r : Record) → kept ≡ Some r → op.kept ≡ kept → (h : HeldLeaf (deleting.perm_in op) w)
    → Agrees w.settings w.seen op.id kept → BeginsObject w.settings op.id h.prefix
delete_object op w None r e is h a = absurd (search rules)
delete_object op w (Some k) r e is h a =
    let b : Born = a.1.0 in
    let same : deleting.perm_in op ≡ permutation_of (distances (space_of w.settings) b.vector) = ap deleting.perm_of is ∙ ap permutation_of a.1.3 in
    record {
      object = object_born b;
      id_is = eqb-true b.id op.id (find_passes (λ x. x.id == op.id) (born (updates_of w.seen)) b a.1.1);
      begun = subst (λ p. begins h.prefix p ≡ true) same h.begun;
    }

pub delete_belongs : (old new : DeleteOp) (w : View) → deleting.StandsStill old new w → old.state ≡ Claiming → (h : HeldLeaf (deleting.perm_in old) w)
    → Agrees w.settings w.seen old.id old.kept → BeginsObject w.settings old.id h.prefix
delete_belongs old new w s state h a =
    let ready : deleting.Ready old w = subst (λ o. deleting.Ready o w) s.same s.ready in
    let p : deleting.Prepared old.id old.root old.kept w × (w.leaf ≡ None) = subst (λ x. deleting.StateIsReady x old w) state ready.state in
    delete_object old w old.kept p.0.knows.found p.0.knows.is refl h a

pub insert_belongs : (old new : InsertOp) (w : View) → inserting.StandsStill old new w → (h : HeldLeaf (inserting.perm_in old) w) → begins h.prefix ((grid_under w.settings).perm old.vector) ≡ true
insert_belongs old new w s h =
    let ready : inserting.Ready old w = subst (λ o. inserting.Ready o w) s.same s.ready in
    subst (λ d. begins h.prefix (permutation_of d) ≡ true) ready.fits.measured h.begun
