-- The bound of the allotted pages is kept.
use Rattle.std.proofs.Common.{◌≡◌, ℕ, ◌+◌, ◌*◌, ◌≤◌, List, [], ◌∷◌, length, length-append, set, Bool, true, false, cond, Some, refl, sym, ap, ◌∙◌, arith, inl, inr, suc, zero, None}
use Rattle.std.specs.Prelude.{replicate, slice_get}
use Rattle.mi_core.specs.Counted.{copies_of, page_lift, total, Counted, NoneEarly}
use Rattle.mi_core.specs.Events.{first_actor, opened, Can, Event, after, ended, made_actor, more_seen}
use Rattle.mi_core.proofs.OpeningLemmas.{get_copy}
use Rattle.std.proofs.lemmas.Bool.{cases_eq, false≢true}
use Rattle.std.proofs.Math.Nat.{mul-le-mul_right}
use Rattle.mi_base.specs.declared.records.LogEvent.{LogEvent}
use Rattle.mi_base.specs.Configuration.{Configuration}
use Rattle.mi_base.specs.History.{updates_of}
use Rattle.mi_base.proofs.HistoryLemmas.{updates_of-append}
use Rattle.mi_core.specs.Effects.{saw}
use Rattle.mi_core.specs.Events.Event.{see, look, meet, refuse, refuse_at, visit, start, trim, miss_shard, claim_shard, release_shard, reserve, pin, unpin, claim_leaf, release_leaf, insert, delete, allot, lack, grow, split_page, post, gather, copy_in, uncopy, publish, give_up, take_sweep, take_split, no_work, sweep, fork, absorb, depart}
use Rattle.mi_core.specs.Sound.{Sound}
use Rattle.mi_core.specs.Later.{IsLater}
use Rattle.mi_entries.specs.Actors.{Actor}
use Rattle.mi_core.specs.State.{State}
use Rattle.mi_core.proofs.ActorLemmas.{at_set, set_else, set_there}
use Rattle.std.proofs.lemmas.Option.{same_Some}
use Rattle.mi_core.proofs.BoundEvents.{bound_holds}
use Rattle.mi_core.proofs.CountEvents.{event_keeps_counts}
use Rattle.mi_entries.proofs.EntryLemmas.{get_more}
use Rattle.mi_core.proofs.LaterEvents.{event_leads_on}
use Rattle.mi_core.proofs.LawLemmas.{event_keeps}
use Rattle.mi_entries.proofs.FilterLemmas.{not_true}

-- nobody was early before
early_was : (actors : List Actor) (a : ℕ) (r q : Actor) → slice_get actors a ≡ Some r → (q.early ≡ false → r.early ≡ false) → NoneEarly (set actors a q) → NoneEarly actors
early_was actors a r q there back none b t e = elim (cases_eq b a) [
  | inl same ↦
      let is : t ≡ r = same_Some t r (sym e ∙ ap (slice_get actors) same ∙ there) in
      ap (λ (z : Actor). z.early) is ∙ back (none a q (set_there actors a q r there))
  | inr o ↦ none b t (set_else actors a b q o ∙ e)
]

-- pages are as many, and updates and actors no fewer
old_bound : (s t : State) → Counted s → IsLater s t → t.board.allotted ≡ s.board.allotted → (NoneEarly t.actors → NoneEarly s.actors) → NoneEarly t.actors
    → 8 * t.board.allotted ≤ length (updates_of t.board.log) * (t.board.settings.levels + 1) + 8 * (7 + length t.actors)
old_bound s t h later same back none =
    let old = h.bound (back none) in
    let n = later.actors in
    let levels : t.board.settings.levels ≡ s.board.settings.levels = ap (λ (c : Configuration). c.levels) later.settings in
    let more : length (updates_of s.board.log) ≤ length (updates_of t.board.log) = (let l = ap (λ (x : List LogEvent). length (updates_of x)) later.log in let m = ap (λ us. length us) (updates_of-append s.board.log later.more) in let k = length-append (updates_of s.board.log) (updates_of later.more) in omega arith) in
    let product : length (updates_of s.board.log) * (s.board.settings.levels + 1) ≤ length (updates_of t.board.log) * (s.board.settings.levels + 1) = mul-le-mul_right (s.board.settings.levels + 1) more in
    let there : length (updates_of t.board.log) * (t.board.settings.levels + 1) ≡ length (updates_of t.board.log) * (s.board.settings.levels + 1) = ap (λ n. length (updates_of t.board.log) * (n + 1)) levels in
    omega arith

counted_by : (e : Event) (s : State) → Sound s → Counted s → (a : ℕ) (r : Actor) → slice_get s.actors a ≡ Some r → (can : Can s a r e) → (after s a r e).board.allotted ≡ s.board.allotted → (NoneEarly (after s a r e).actors → NoneEarly s.actors) → Counted (after s a r e)
counted_by e s k h a r there can same back =
    let both = event_keeps_counts e s k h.lifted h.told a r there can in
    record { lifted = both.0; told = both.1; bound = old_bound s (after s a r e) h (event_leads_on e s k a r there can) same back }

abbrev pub StaysCounted : Event → Type 0
StaysCounted e = (s : State) → Sound s → Counted s → (a : ℕ) (r : Actor) → slice_get s.actors a ≡ Some r → Can s a r e → Counted (after s a r e)

pub event_keeps_counted : (e : Event) → StaysCounted e
event_keeps_counted see = λ s k h a r there can. counted_by see s k h a r there can refl (early_was s.actors a r _ there (λ z. z))
event_keeps_counted look = λ s k h a r there can. counted_by look s k h a r there can refl (early_was s.actors a r _ there (λ z. z))
event_keeps_counted no_work = λ s k h a r there can. counted_by no_work s k h a r there can refl (early_was s.actors a r _ there (λ z. z))
event_keeps_counted (meet page) = λ s k h a r there can. counted_by (meet page) s k h a r there can refl (early_was s.actors a r _ there (λ z. z))
event_keeps_counted (refuse why) = λ s k h a r there can. counted_by (refuse why) s k h a r there can refl (early_was s.actors a r _ there (λ z. z))
event_keeps_counted (refuse_at page why) = λ s k h a r there can. counted_by (refuse_at page why) s k h a r there can refl (early_was s.actors a r _ there (λ z. z))
event_keeps_counted (visit page) = λ s k h a r there can. counted_by (visit page) s k h a r there can refl (early_was s.actors a r _ there (λ z. z))
event_keeps_counted (start page) = λ s k h a r there can. counted_by (start page) s k h a r there can refl (early_was s.actors a r _ there (λ z. z))
event_keeps_counted (trim page node) = λ s k h a r there can. counted_by (trim page node) s k h a r there can refl (early_was s.actors a r _ there (λ z. z))
event_keeps_counted (miss_shard n) = λ s k h a r there can. counted_by (miss_shard n) s k h a r there can refl (early_was s.actors a r _ there (λ z. z))
event_keeps_counted (claim_shard n kept) = λ s k h a r there can. counted_by (claim_shard n kept) s k h a r there can refl (early_was s.actors a r _ there (λ z. z))
event_keeps_counted (release_shard n kept) = λ s k h a r there can. counted_by (release_shard n kept) s k h a r there can refl (early_was s.actors a r _ there (λ z. z))
event_keeps_counted (reserve n kept room) = λ s k h a r there can. counted_by (reserve n kept room) s k h a r there can refl (early_was s.actors a r _ there (λ z. z))
event_keeps_counted pin = λ s k h a r there can. counted_by pin s k h a r there can refl (early_was s.actors a r _ there (λ z. z))
event_keeps_counted unpin = λ s k h a r there can. counted_by unpin s k h a r there can refl (early_was s.actors a r _ there (λ z. z))
event_keeps_counted (claim_leaf p) = λ s k h a r there can. counted_by (claim_leaf p) s k h a r there can refl (early_was s.actors a r _ there (λ z. z))
event_keeps_counted release_leaf = λ s k h a r there can. counted_by release_leaf s k h a r there can refl (early_was s.actors a r _ there (λ z. z))
event_keeps_counted (insert op id page node kept e) = λ s k h a r there can. counted_by (insert op id page node kept e) s k h a r there can refl (early_was s.actors a r _ there (λ z. z))
event_keeps_counted (delete op id page node kept key) = λ s k h a r there can. counted_by (delete op id page node kept key) s k h a r there can refl (early_was s.actors a r _ there (λ z. z))
event_keeps_counted lack = λ s k h a r there can. counted_by lack s k h a r there can refl (early_was s.actors a r _ there (λ z. z))
event_keeps_counted (grow level key child) = λ s k h a r there can. counted_by (grow level key child) s k h a r there can refl (early_was s.actors a r _ there (λ z. z))
event_keeps_counted (split_page page node) = λ s k h a r there can. counted_by (split_page page node) s k h a r there can refl (early_was s.actors a r _ there (λ z. z))
event_keeps_counted (post page node key child) = λ s k h a r there can. counted_by (post page node key child) s k h a r there can refl (early_was s.actors a r _ there (λ z. z))
event_keeps_counted (gather page node) = λ s k h a r there can. counted_by (gather page node) s k h a r there can refl (early_was s.actors a r _ there (λ z. z))
event_keeps_counted (copy_in page node e) = λ s k h a r there can. counted_by (copy_in page node e) s k h a r there can refl (early_was s.actors a r _ there (λ z. z))
event_keeps_counted publish = λ s k h a r there can. counted_by publish s k h a r there can refl (early_was s.actors a r _ there (λ z. z))
event_keeps_counted (give_up pages) = λ s k h a r there can. counted_by (give_up pages) s k h a r there can refl (early_was s.actors a r _ there (λ z. z))
event_keeps_counted (take_sweep p) = λ s k h a r there can. counted_by (take_sweep p) s k h a r there can refl (early_was s.actors a r _ there (λ z. z))
event_keeps_counted (take_split p) = λ s k h a r there can. counted_by (take_split p) s k h a r there can refl (early_was s.actors a r _ there (λ z. z))
event_keeps_counted (sweep page node) = λ s k h a r there can. counted_by (sweep page node) s k h a r there can refl (early_was s.actors a r _ there (λ z. z))
event_keeps_counted depart = λ s k h a r there can. counted_by depart s k h a r there can refl (early_was s.actors a r _ there (λ z. z))
event_keeps_counted (uncopy page node e told) = λ s k h a r there can. counted_by (uncopy page node e told) s k h a r there can refl (early_was s.actors a r _ there (λ z. late told r.early z))
  where
    late : (told early : Bool) → cond told early true ≡ false → early ≡ false
    late true early e = e
    late false early e = absurd (false≢true (sym e))
event_keeps_counted fork = λ s k h a r there can. counted_by fork s k h a r there can refl (λ none. early_was s.actors a r (saw s.board r) there (λ z. z) (λ b t e. none b t (get_more (set s.actors a (saw s.board r)) (made_actor s.board r.floor ∷ []) b t e)))
event_keeps_counted (absorb b t) = λ s k h a r there can. counted_by (absorb b t) s k h a r there can refl (λ none.
    let q : Actor = more_seen t r in
    let its = set_else s.actors a b q can.0 ∙ can.1 in
    let own : slice_get (set (set s.actors a q) b (ended t)) a ≡ Some q = set_else (set s.actors a q) b a (ended t) (λ e. can.0 (sym e)) ∙ set_there s.actors a q r there in
    early_was s.actors a r q there (λ z. left r.early t.early z)
    (early_was (set s.actors a q) b t (ended t) its (λ _. right r.early t.early (none a q own)) none))
  where
    right : (x y : Bool) → cond x true y ≡ false → y ≡ false
    right true y e = absurd (false≢true (sym e))
    right false y e = e

    left : (x y : Bool) → cond x true y ≡ false → x ≡ false
    left true y e = e
    left false y e = refl
event_keeps_counted allot = λ s k h a r there can.
    let t : State = after s a r allot in
    let both = event_keeps_counts allot s k h.lifted h.told a r there can in
    let q : Actor = record (saw s.board r) { fresh = Some s.board.allotted } in
    let short = can.1 in
    record {
      lifted = both.0;
      told = both.1;
      bound = λ none. bound_holds t (event_keeps allot s k a r there can) both.0 (λ b z e.
          not_true z.undone (λ u. let full : s.board.allotted ≡ s.board.settings.pages = elim (at_set s.actors a b q z e) [
            | inl w ↦ h.told a r there (ap (λ (x : Actor). x.undone) w.1 ∙ u) (ap (λ (x : Actor). x.early) w.1 ∙ none b z e)
            | inr w ↦ h.told b z w.1 u (none b z e)
          ] in omega arith));
    }

pub opened_counted : (c : Configuration) (count more : ℕ) → Counted (opened c count more)
opened_counted c count more = record {
  lifted = λ none. let n = no_pages more in let m = no_copies count in omega arith;
  told = λ a r e u. absurd (false≢true (ap (λ (x : Actor). x.undone) (get_copy count a first_actor r e) ∙ u));
  bound = λ none. omega arith;
}
  where
    no_pages : (n : ℕ) → total page_lift (replicate n None) ≡ 0
    no_pages zero = refl
    no_pages (suc n) = omega (arith, no_pages n)

    no_copies : (n : ℕ) → total copies_of (replicate n first_actor) ≡ 0
    no_copies zero = refl
    no_copies (suc n) = omega (arith, no_copies n)
