-- The turns of one actor leave the others where they stand.
use Rattle.std.proofs.Common.{◌≡◌, ◌≢◌, ℕ, ◌<◌, List, [], ◌∷◌, ◌++◌, length, Bool, true, false, cond, ◌||◌, Option, Some, None, refl, sym, ap, ◌∙◌, subst, arith, eq-eqb, inl, inr}
use Rattle.std.specs.Prelude.{slice_get, ◌==◌, ◌&&◌}
use Rattle.std.specs.List.{filter, list_any}
use Rattle.std.proofs.Math.Bool.{or-false}
use Rattle.std.proofs.lemmas.Bool.{false≢true, ne_eqb, or_parts}
use Rattle.std.proofs.lemmas.List.{length-set}
use Rattle.std.proofs.lemmas.List.Folds.{list_any-append}
use Rattle.std.proofs.lemmas.Option.{get_or_from_slice_get, slice_get_cases, slice_get_past}
use Rattle.mi_base.specs.declared.records.Op.{Op}
use Rattle.mi_base.specs.Configuration.{metric_space}
use Rattle.mi_base.specs.Scripts.{IsScriptOver}
use Rattle.mi_board.specs.Boards.{is_passed, leaf_claimed, prefix_or}
use Rattle.mi_core.specs.Events.{Can, Event, Leads, after, first_actor}
use Rattle.mi_core.specs.Events.Event.{absorb, depart, fork, give_up, publish, see}
use Rattle.mi_core.specs.Kept.{Kept}
use Rattle.mi_core.specs.Later.{Spares}
use Rattle.mi_core.specs.State.{State}
use Rattle.mi_core.proofs.FrameEvents.{event_spares}
use Rattle.mi_entries.specs.Actors.{Actor}
use Rattle.mi_entries.proofs.FilterLemmas.{not_true}
use Rattle.mi_job.specs.declared.job.Job.{Job}
use Rattle.mi_job.specs.Claims.{ClaimsNone}
use Rattle.mi_job.proofs.OthersLemmas.{care_stays, job_stays}
use Rattle.mi_solo.specs.Solos.{IsCall, MayTurn}
use Rattle.mi_solo.specs.States.{actor_in, view_in}
use Rattle.mi_solo.specs.Viewing.{shown_to}
use Rattle.mi_solo.proofs.OthersLemmas.{event_is_others}
use Rattle.mi_tree.specs.Catalog.{prefixes_of}
use Rattle.mi_tree.specs.Cells.{same_cell}
use Rattle.mi_tree.specs.Legal.{cells_of}
use Rattle.mi_tree.proofs.LeafLemmas.{same_cell_is, same_self}
use Rattle.mi_tree.proofs.ListLemmas.{all_joined, all_weaker}
use Rattle.mi_world.specs.View.{Others, View}
use Rattle.mi_world.proofs.ViewLemmas.{others_none, others_on}
use Rattle.mi_replay.specs.declared.seats.Seat.{Seat}
use Rattle.mi_settle.specs.declared.splitters.SplitterSeat.{SplitterSeat}
use Rattle.mi_settle.specs.Working.{AllBy, BeginsWork}
use Rattle.mi_settle.specs.Moving.{MakeCalls, MakesCall}
use Rattle.mi_replay.specs.Seats.{SeatWaits, WaitsAt}
use Rattle.mi_settle.specs.Splitters.{SplitterAt, SplitterWaits, gave_up, is_given_up}
use Rattle.mi_settle.specs.Turns.{Chained, ComesTo, Goes, LeadsBy, Makes, Turn}
use Rattle.mi_settle.proofs.LaterLemmas.{Later, later_come, later_head}
use Rattle.mi_settle.proofs.TurnLemmas.{NotBy, busy_on, in_turn_still}

call_spares : (e : Event) (j : ℕ) → IsCall e → Spares e j
call_spares (absorb b t) j h = absurd h
call_spares e j h = tt

as_many_led : (s : State) (a : ℕ) (r : Actor) (e : Event) → IsCall e → length (after s a r e).actors ≡ length s.actors
as_many_led s a r fork h = absurd h
as_many_led s a r (absorb b t) h = absurd h
as_many_led s a r depart h = absurd h
as_many_led s a r e h = length-set s.actors a _

-- what is dropped isn't met
any_less : {X : Type 0} (f g : X → Bool) (xs : List X) → list_any f xs ≡ false → list_any f (filter g xs) ≡ false
any_less f g [] h = refl
any_less {X = X} f g (x ∷ xs) h =
    let parts = or_parts (f x) (list_any f xs) h in
    let P : Bool → Type 0 = λ b. list_any f (cond b (x ∷ filter g xs) (filter g xs)) ≡ false in
    elim (g x) as P [ true ↦ ap (λ b. b || list_any f (filter g xs)) parts.0 ∙ any_less f g xs parts.1 | false ↦ any_less f g xs parts.1 ]

any_dropped : {X : Type 0} (f g : X → Bool) (xs : List X) → ((x : X) → f x ≡ true → g x ≡ false) → list_any f (filter g xs) ≡ false
any_dropped f g [] h = refl
any_dropped f g (x ∷ xs) h =
    let P : Bool → Type 0 = λ b. (f x ≡ true → b ≡ false) → list_any f (cond b (x ∷ filter g xs) (filter g xs)) ≡ false in
    (elim (g x) as P [
      | true ↦ λ d. ap (λ y. y || list_any f (filter g xs)) (not_true (f x) (λ e. false≢true (sym (d e)))) ∙ any_dropped f g xs h
      | false ↦ λ d. any_dropped f g xs h
    ]) (h x)

-- a leaf that another actor claims isn't passed over by this one's events
module _ (s : State) (k : Kept s) (a : ℕ) (r : Actor) (there : slice_get s.actors a ≡ Some r) (j : ℕ) (q : Actor) (at : slice_get s.actors j ≡ Some q) (apart : j ≢ a) (p : List ℕ)
    (mine : q.claim ≡ Some p) where
  two : (o : List ℕ) → r.claim ≡ Some o → same_cell p o ≡ false
  two o its = not_true (same_cell p o) (λ e. apart (k.sound.claims j a q r p at there mine (its ∙ ap Some (sym (same_cell_is p o e)))))

  unpassed : (e : Event) → Can s a r e → is_passed p s.board ≡ false → is_passed p (after s a r e).board ≡ false
  unpassed publish can h = any_less (same_cell p) _ s.board.passed_over h
  unpassed (give_up true) can h =
      let given : leaf_claimed s.board a ≡ can.0 = ap prefix_or ((k.sound.each a r there).holds.claim ∙ can.1) in
      any_dropped (same_cell p) (λ z. same_cell (leaf_claimed s.board a) z || is_passed z s.board) (prefixes_of (cells_of s.board.settings s.board.log))
      (λ z e.
      let same : z ≡ p = sym (same_cell_is p z e) in
      let other : same_cell can.0 z ≡ false = not_true (same_cell can.0 z)
      (λ i. false≢true (sym (two can.0 can.1) ∙ ap (same_cell p) (same_cell_is can.0 z i ∙ same) ∙ same_self p)) in
      ap (λ o. same_cell o z || is_passed z s.board) given ∙ ap (λ b. b || is_passed z s.board) other ∙ ap (λ x. is_passed x s.board) same ∙ h)
  unpassed (give_up false) can h = h
  unpassed e can h = h

-- another actor's record, its view, and its leaf
record Spared (j : ℕ) (r : Actor) (s t : State) : Type 0 where
  there : slice_get t.actors j ≡ Some r
  view : Others (shown_to s j r) (shown_to t j r)
  count : length t.actors ≡ length s.actors
  passed : (p : List ℕ) → r.claim ≡ Some p → is_passed p s.board ≡ false → is_passed p t.board ≡ false

spared_none : (j : ℕ) (r : Actor) (s : State) → slice_get s.actors j ≡ Some r → Spared j r s s
spared_none j r s at = record { there = at; view = others_none (shown_to s j r); count = refl; passed = λ p mine h. h }

spared_on : (j : ℕ) (r : Actor) (s m t : State) → Spared j r s m → Spared j r m t → Spared j r s t
spared_on j r s m t h k = record {
  there = k.there;
  view = others_on (shown_to s j r) (shown_to m j r) (shown_to t j r) h.view k.view;
  count = k.count ∙ h.count;
  passed = λ p mine e. k.passed p mine (h.passed p mine e);
}

module _ (j : ℕ) (r : Actor) where
  spared_led : (e : Event) (s : State) (a : ℕ) (t : State) → Kept s → j ≢ a → IsCall e → slice_get s.actors j ≡ Some r → LeadsBy e s a t → Spared j r s t
  spared_led e s a t k apart call at h =
      let l : Leads s a t = h.0 in
      let calls : IsCall l.event = subst IsCall (sym h.1) call in
      let spares : Spares l.event j = call_spares l.event j calls in
      subst (Spared j r s) (sym l.is) (record {
        there = event_spares l.event s a l.actor l.can j r at apart spares;
        view = event_is_others l.event s k a l.actor l.there l.going l.can j r at apart spares;
        count = as_many_led s a l.actor l.event calls;
        passed = λ p mine. unpassed s k a l.actor l.there j r at apart p mine l.event l.can;
      })

  spared_come : (s : State) (a : ℕ) (m : State) → Kept s → j ≢ a → slice_get s.actors j ≡ Some r → ComesTo s a m → Spared j r s m
  spared_come s a m k apart at h = elim h [ inl same ↦ subst (Spared j r s) (sym same) (spared_none j r s at) | inr sees ↦ spared_led see s a m k apart tt at sees ]

  spared_gone : (e : Option Event) (s : State) (a : ℕ) (t : State) → Kept s → j ≢ a → MakesCall e → slice_get s.actors j ≡ Some r → Goes e s a t → Spared j r s t
  spared_gone None s a t k apart call at h = subst (Spared j r s) (sym h) (spared_none j r s at)
  spared_gone (Some e) s a t k apart call at h = spared_led e s a t k apart call at h

  spared_turn : (e : Option Event) (s : State) (a : ℕ) (t : State) → Kept s → j ≢ a → MakesCall e → slice_get s.actors j ≡ Some r → Makes e s a t → Spared j r s t
  spared_turn e s a t k apart call at m =
      let come = spared_come s a m.between k apart at m.comes in
      spared_on j r s m.between t come (spared_gone e m.between a t (later_come s a m.between k m.comes).kept apart call come.there m.goes)

  spared_all : (a : ℕ) (s : State) (us : List Turn) (t : State) → j ≢ a → Kept s → Chained s us t → AllBy a us → MakeCalls us → slice_get s.actors j ≡ Some r → Spared j r s t
  spared_all a s [] t apart k h by calls at = subst (Spared j r s) h (spared_none j r s at)
  spared_all a s (u ∷ us) t apart k h by calls at =
      let makes : Makes u.event s u.actor u.after = subst (λ x. Makes u.event x u.actor u.after) h.0 h.1 in
      let first = spared_turn u.event s u.actor u.after k (λ e. apart (e ∙ by.0)) calls.0 at makes in
      spared_on j r s u.after t first (spared_all a u.after us t apart (later_head s u us t k h).kept h.2 by.1 calls.1 first.there)

-- how many actors there are
as_many_by : (e : Event) (s : State) (a : ℕ) (t : State) → IsCall e → LeadsBy e s a t → length t.actors ≡ length s.actors
as_many_by e s a t call h =
    let l : Leads s a t = h.0 in
    ap (λ (x : State). length x.actors) l.is ∙ as_many_led s a l.actor l.event (subst IsCall (sym h.1) call)

as_many_come : (s : State) (a : ℕ) (m : State) → ComesTo s a m → length m.actors ≡ length s.actors
as_many_come s a m h = elim h [ inl same ↦ ap (λ (x : State). length x.actors) same | inr sees ↦ as_many_by see s a m tt sees ]

as_many_gone : (e : Option Event) (s : State) (a : ℕ) (t : State) → MakesCall e → Goes e s a t → length t.actors ≡ length s.actors
as_many_gone None s a t call h = ap (λ (x : State). length x.actors) h
as_many_gone (Some e) s a t call h = as_many_by e s a t call h

pub as_many : (s : State) (us : List Turn) (t : State) → Chained s us t → MakeCalls us → length t.actors ≡ length s.actors
as_many s [] t h calls = ap (λ (x : State). length x.actors) (sym h)
as_many s (u ∷ us) t h calls =
    let m = h.1 in
    as_many u.after us t h.2 calls.1 ∙ as_many_gone u.event m.between u.actor u.after calls.0 m.goes ∙ as_many_come u.before u.actor m.between m.comes ∙ ap (λ (x : State). length x.actors) h.0

-- what the turns of others leave of an actor: the same record, and a view that is as others make it
pub record Apart (j : ℕ) (s t : State) : Type 0 where
  pub there : j < length t.actors
  pub same : slice_get t.actors j ≡ slice_get s.actors j
  pub actor_is : actor_in t j ≡ actor_in s j
  pub view : Others (view_in s j) (view_in t j)
  pub passed : (p : List ℕ) → (actor_in s j).claim ≡ Some p → is_passed p s.board ≡ false → is_passed p t.board ≡ false

pub is_there : (s : State) (j : ℕ) → j < length s.actors → slice_get s.actors j ≡ Some (actor_in s j)
is_there s j lt = elim (slice_get_cases s.actors j).1 [
  | inl c ↦ c.2 ∙ ap Some (sym (get_or_from_slice_get s.actors j c.0 first_actor c.2))
  | inr c ↦ absurd (omega (arith, c.0, lt))
]

pub apart_by : (j a : ℕ) (s : State) (us : List Turn) (t : State) → j ≢ a → j < length s.actors → Kept s → Chained s us t → AllBy a us → MakeCalls us → Apart j s t
apart_by j a s us t apart lt k h by calls =
    let r : Actor = actor_in s j in
    let at : slice_get s.actors j ≡ Some r = is_there s j lt in
    let x = spared_all j r a s us t apart k h by calls at in
    let now : actor_in t j ≡ r = get_or_from_slice_get t.actors j r first_actor x.there in
    record {
      there = omega (arith, lt, x.count);
      same = x.there ∙ sym at;
      actor_is = now;
      view = subst (λ (q : Actor). Others (shown_to s j r) (shown_to t j q)) (sym now) x.view;
      passed = x.passed;
    }

-- the record of any other number
pub same_else : (a : ℕ) (s : State) (us : List Turn) (t : State) → Kept s → Chained s us t → AllBy a us → MakeCalls us → (j : ℕ) → j ≢ a → slice_get t.actors j ≡ slice_get s.actors j
same_else a s us t k h by calls j apart = elim (slice_get_cases s.actors j).1 [
  | inl c ↦ (apart_by j a s us t apart c.1 k h by calls).same
  | inr c ↦ slice_get_past t.actors j (omega (arith, c.0, as_many s us t h calls)) ∙ sym c.1
]

pub not_by : (j a : ℕ) (made : List Turn) → j ≢ a → AllBy a made → NotBy j made
not_by j a made apart by = all_weaker (λ u. u.actor ≡ a) (λ u. (u.actor == j) ≡ false) (λ (u : Turn) h. ne_eqb u.actor j (λ e. apart (sym e ∙ h))) made by

pub claims_stay : (v w : View) → Others v w → ClaimsNone v → ClaimsNone w
claims_stay v w o h = record {
  nothing = record {
    shard = o.same.work.update.shard ∙ h.nothing.shard;
    leaf = o.same.work.leaf.leaf ∙ h.nothing.leaf;
    sweep = o.same.work.apart.sweep.sweep ∙ h.nothing.sweep;
    pin = o.same.work.apart.pin ∙ h.nothing.pin;
  };
  unsplit = o.same.work.apart.split.splitting ∙ h.unsplit;
}

waits_at_on : (v w : View) (o : Option Job) → Others v w → WaitsAt o v → WaitsAt o w
waits_at_on v w None o h = claims_stay v w o h
waits_at_on v w (Some x) o h = job_stays v w o x h

may_on : (j : ℕ) (s t : State) → Apart j s t → MayTurn s j → MayTurn t j
may_on j s t o h = record { made = o.there; going = ap (λ (r : Actor). r.ended) o.actor_is ∙ h.going }

pub waits_on : (j : ℕ) (s t : State) (script : List Op) (a : Seat) → Apart j s t → SeatWaits s j script a → SeatWaits t j script a
waits_on j s t script a o h = record {
  may = may_on j s t o h.may;
  fits = subst (λ c. IsScriptOver (metric_space c) script) (sym o.view.later.settings) h.fits;
  at = waits_at_on (view_in s j) (view_in t j) a.job o.view h.at;
  few = h.few;
  asks = h.asks;
  room = h.room;
}

pub splitter_waits_on : (n : ℕ) (s t : State) (x : SplitterSeat) → Apart n s t → SplitterWaits s n x → SplitterWaits t n x
splitter_waits_on n s t x o h = record {
  may = may_on n s t o h.may;
  ready = care_stays (view_in s n) (view_in t n) o.view x.care h.ready;
  unpassed = λ p mine. (let was : (actor_in s n).claim ≡ Some p = ap (λ (r : Actor). r.claim) (sym o.actor_is) ∙ mine in o.passed p was (h.unpassed p was));
}

-- the splitter gives up nothing in others' turns
none_given_up : (n : ℕ) (pages : Bool) (made : List Turn) → NotBy n made → list_any (gave_up n pages) made ≡ false
none_given_up n pages [] h = refl
none_given_up n pages (u ∷ us) h = ap (λ b. (b && is_given_up pages u.event) || list_any (gave_up n pages) us) h.0 ∙ none_given_up n pages us h.1

given_up_on : (n : ℕ) (pages : Bool) (turns made : List Turn) → NotBy n made → list_any (gave_up n pages) (turns ++ made) ≡ list_any (gave_up n pages) turns
given_up_on n pages turns made h = list_any-append (gave_up n pages) turns made ∙ ap (λ b. list_any (gave_up n pages) turns || b) (none_given_up n pages made h) ∙ or-false (list_any (gave_up n pages) turns)

pub splitter_at_on : (n : ℕ) (turns made : List Turn) (s t : State) (x : SplitterSeat) → Apart n s t → Later s t → NotBy n made → SplitterAt turns s n x → SplitterAt (turns ++ made) t n x
splitter_at_on n turns made s t x o l none h = record {
  busy_is = busy_on n turns made none ∙ h.busy_is;
  in_turn = in_turn_still n turns made h.in_turn none;
  begins = all_joined (BeginsWork n) turns made h.begins (all_weaker (λ u. (u.actor == n) ≡ false) (BeginsWork n) (λ (u : Turn) no is. absurd (false≢true (sym no ∙ eq-eqb u.actor n is))) made none);
  own = o.view.same.work.update.own ∙ h.own;
  wanted_is = h.wanted_is ∙ sym (given_up_on n false turns made none);
  full = λ up. l.full (h.full (sym (given_up_on n true turns made none) ∙ up));
}
