-- What a session's own view tells of its turn, as the states have it.
use Rattle.std.proofs.Common.{◌≡◌, ℕ, ◌+◌, List, ◌++◌, length, false, Some, refl, sym, ap, ◌∙◌, subst, arith, inl, inr, length-append}
use Rattle.std.specs.Prelude.{◌⊎◌, map, slice_get}
use Rattle.std.proofs.lemmas.Bool.{false≢true}
use Rattle.std.proofs.lemmas.List.{append_cancel_left}
use Rattle.mi_base.specs.declared.records.LogEvent.TheVariants.{Update as Made}
use Rattle.mi_base.specs.declared.records.Op.{Op}
use Rattle.mi_base.specs.declared.records.Op.TheVariants.{Insert, Delete, Range, Nearest}
use Rattle.mi_base.specs.History.{Entered, updates_of}
use Rattle.mi_base.proofs.HistoryLemmas.{updates_of-append}
use Rattle.mi_core.specs.Events.{Event, Leads, after}
use Rattle.mi_core.specs.Events.Event.{insert, delete, fork, absorb, depart}
use Rattle.mi_core.specs.State.{State}
use Rattle.mi_entries.specs.Actors.{Actor}
use Rattle.mi_job.specs.declared.job.Job.{Job}
use Rattle.mi_job.specs.Jobs.{Enters, asked, entry_of, is_query, op_number}
use Rattle.mi_solo.specs.Solos.{Calls, IsCall}
use Rattle.mi_solo.specs.States.{actor_in, view_in}
use Rattle.mi_world.specs.View.{View}
use Rattle.mi_settle.specs.Moving.{Moves}
use Rattle.mi_settle.proofs.ComingLemmas.{now, was}
use Rattle.mi_replay.specs.Operations.{entry}

module _ (s : State) (k : ℕ) (r : Actor) (there : slice_get s.actors k ≡ Some r) where
  -- what an event adds to its actor's updates, if any, it adds to the log
  record Adds (t : State) : Type 0 where
    more : List Entered
    own : (actor_in t k).own ≡ r.own ++ more
    log : t.board.log ≡ s.board.log ++ map (λ e. Made e.session e.op e.update) more

  adds : (e : Event) → IsCall e → ((actor_in (after s k r e) k).own ≡ r.own) ⊎ Adds (after s k r e)
  adds (insert op id page node kept e) call = inr (record { more = _; own = ap (λ (x : Actor). x.own) (now s k r there _); log = refl })
  adds (delete op id page node kept key) call = inr (record { more = _; own = ap (λ (x : Actor). x.own) (now s k r there _); log = refl })
  adds fork call = absurd call
  adds (absorb b q) call = absurd call
  adds depart call = absurd call
  adds e call = inl (ap (λ (x : Actor). x.own) (now s k r there _))

-- the update that a section enters is the section's event
pub record EntersLog (k : ℕ) (old : Job) (s t : State) : Type 0 where
  pub log : t.board.log ≡ s.board.log ++ entry k (op_number old) (asked old)
  pub number : length (updates_of t.board.log) ≡ length (updates_of s.board.log) + 1

entry_made : (v : View) (n : ℕ) (o : Op) → map (λ e. Made e.session e.op e.update) (entry_of v n o) ≡ entry v.actor n o
entry_made v n (Insert id vector) = refl
entry_made v n (Delete id) = refl
entry_made v n (Range radius query) = refl
entry_made v n (Nearest count query) = refl

one_entry : (v : View) (n : ℕ) (o : Op) → is_query o ≡ false → (length (entry_of v n o) ≡ 1) × (length (updates_of (entry v.actor n o)) ≡ 1)
one_entry v n (Insert id vector) q = (refl, refl)
one_entry v n (Delete id) q = (refl, refl)
one_entry v n (Range radius query) q = absurd (false≢true (sym q))
one_entry v n (Nearest count query) q = absurd (false≢true (sym q))

none_added : (own es : List Entered) → length es ≡ 1 → own ≡ own ++ es → ⊥
none_added own es one e = absurd (omega (arith, ap length e, length-append own es, one))

module _ (s : State) (k : ℕ) (t : State) (old new : Job) (e : Enters old (view_in s k) new (view_in t k)) where
  abbrev es : List Entered
  es = entry_of (view_in t k) (op_number old) (asked old)

  one : (length es ≡ 1) × (length (updates_of (entry k (op_number old) (asked old))) ≡ 1)
  one = one_entry (view_in t k) (op_number old) (asked old) e.update

  by_calls : (c : Calls s k t) → (((actor_in t k).own ≡ c.leads.actor.own) ⊎ Adds s k c.leads.actor c.leads.there t) → EntersLog k old s t
  by_calls c (inl same) =
      let before : (view_in s k).own ≡ c.leads.actor.own = ap (λ (x : Actor). x.own) (was s k c.leads.actor c.leads.there) in
      absurd (none_added (view_in s k).own es one.0 (before ∙ sym same ∙ e.own))
  by_calls c (inr a) =
      let before : (view_in s k).own ≡ c.leads.actor.own = ap (λ (x : Actor). x.own) (was s k c.leads.actor c.leads.there) in
      let more : a.more ≡ es = append_cancel_left c.leads.actor.own _ _ (sym a.own ∙ e.own ∙ ap (λ l. l ++ es) before) in
      let log : t.board.log ≡ s.board.log ++ entry k (op_number old) (asked old) =
      a.log ∙ ap (λ l. s.board.log ++ map (λ (x : Entered). Made x.session x.op x.update) l) more ∙ ap (λ l. s.board.log ++ l) (entry_made (view_in t k) (op_number old) (asked old)) in
      record {
        log = log;
        number = omega (
          arith,
          ap (λ l. length (updates_of l)) log,
          ap length (updates_of-append s.board.log (entry k (op_number old) (asked old))),
          length-append (updates_of s.board.log) (updates_of (entry k (op_number old) (asked old))),
          one.1,
        );
      }

  pub enters_log : Moves s k t → EntersLog k old s t
  enters_log (inl same) = absurd (none_added (view_in s k).own es one.0 (ap (λ (x : State). (view_in x k).own) (sym same) ∙ e.own))
  enters_log (inr c) =
      let l : Leads s k t = c.leads in
      by_calls c (subst (λ (x : State). ((actor_in x k).own ≡ l.actor.own) ⊎ Adds s k l.actor l.there x) (sym l.is) (adds s k l.actor l.there l.event c.call))
