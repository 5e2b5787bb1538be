-- The finishing rounds end.
use Rattle.std.proofs.Common.{◌≡◌, ◌≢◌, ℕ, zero, suc, ◌+◌, ◌-◌, ◌<◌, ◌≤◌, List, [], ◌∷◌, length, Bool, true, false, cond, ◌||◌, Option, Some, None, refl, sym, ap, ◌∙◌, subst, arith, inl, inr}
use Rattle.std.specs.Prelude.{slice_get, slice_index_or, slice_set, ◌⊎◌, is_none, is_some}
use Rattle.std.specs.List.{list_any}
use Rattle.std.proofs.lemmas.Bool.{false≢true, and_parts, or_parts}
use Rattle.std.proofs.lemmas.Option.{get_or_from_slice_get, none-some, same_Some, slice_get_within}
use Rattle.mi_base.specs.declared.records.Op.{Op}
use Rattle.mi_base.specs.declared.records.Op.TheVariants.{Insert, Delete, Range, Nearest}
use Rattle.mi_board.specs.Actors.{idle}
use Rattle.mi_board.specs.declared.actors.ActorState.{ActorState}
use Rattle.mi_core.specs.Events.{first_actor}
use Rattle.mi_core.specs.Kept.{Kept}
use Rattle.mi_core.specs.State.{State}
use Rattle.mi_core.proofs.ActorLemmas.{set_else}
use Rattle.mi_entries.specs.Actors.{Actor}
use Rattle.mi_entries.specs.Records.{home, shard_at}
use Rattle.mi_job.specs.declared.job.Job.{Job}
use Rattle.mi_job.specs.Claims.{ClaimsNone, IsHeld}
use Rattle.mi_job.specs.Jobs.{asked}
use Rattle.mi_solo.specs.States.{actor_in, view_in}
use Rattle.mi_solo.specs.Viewing.{holder_from}
use Rattle.mi_solo.proofs.ViewLemmas.{claim_is, holder_is}
use Rattle.mi_world.specs.View.{IsOther}
use Rattle.mi_replay.specs.declared.seats.Seat.{Seat}
use Rattle.mi_replay.specs.declared.seats.Taken.{Taken}
use Rattle.mi_replay.specs.declared.seats.Taken.TheVariants.{More, Held, Ended}
use Rattle.mi_settle.specs.declared.splitters.SplitterSeat.{SplitterSeat}
use Rattle.mi_replay.specs.Rounds.{Eased, Eases, NoClaim, NoLeaf, Relieved, Relieves, Rested, has_leaf, has_shard, operations_left, phase, phase_at, rounds_left}
use Rattle.mi_replay.specs.Seats.{Going, OperationMade, SeatWaits, WaitsAt, is_over}
use Rattle.mi_settle.specs.Splitters.{SplitterGoing}
use Rattle.mi_replay.specs.Tables.{NotOver, TableWaits}
use Rattle.mi_replay.proofs.HeldLemmas.{leaf_held, shard_held}
use Rattle.mi_settle.proofs.LaterLemmas.{later_all}
use Rattle.mi_replay.proofs.TableBlocks.{by_number, one_of}
use Rattle.mi_replay.proofs.TableLemmas.{is_there, same_else}

-- none of these, so not this one
any_false_at : (f : Actor → Bool) (xs : List Actor) (i : ℕ) (r : Actor) → list_any f xs ≡ false → slice_get xs i ≡ Some r → f r ≡ false
any_false_at f [] i r h at = absurd (none-some r at)
any_false_at f (x ∷ xs) zero r h at = ap f (sym (same_Some x r at)) ∙ (or_parts (f x) (list_any f xs) h).0
any_false_at f (x ∷ xs) (suc i) r h at = any_false_at f xs i r (or_parts (f x) (list_any f xs) h).1 at

pub any_false_from : (f : Actor → Bool) (xs : List Actor) → ((i : ℕ) (r : Actor) → slice_get xs i ≡ Some r → f r ≡ false) → list_any f xs ≡ false
any_false_from f [] h = refl
any_false_from f (x ∷ xs) h = ap (λ y. y || list_any f xs) (h 0 x refl) ∙ any_false_from f xs (λ i r at. h (suc i) r at)

none_some : {X : Type 0} (o : Option X) → o ≡ None → is_some o ≡ false
none_some o e = ap is_some e

some_has : {X : Type 0} (o : Option X) (x : X) → o ≡ Some x → is_some o ≡ true
some_has o x e = ap is_some e

claims_within : (l : List ActorState) (i : ℕ) (p : List ℕ) → (slice_index_or l i idle).claim ≡ Some p → i < length l
claims_within [] i p h = absurd (none-some p h)
claims_within (x ∷ l) zero p h = omega arith
claims_within (x ∷ l) (suc i) p h = omega (arith, claims_within l i p h)

-- the holder of a leaf claims it, and the holder of a shard holds it
holder_claims : (t : State) → Kept t → (p : List ℕ) (by : ℕ) → holder_from 0 t.board.actors p ≡ Some by → (r : Actor) × (slice_get t.actors by ≡ Some r) × (has_leaf r ≡ true)
holder_claims t k p by h =
    let x = holder_is 0 t.board.actors p by h in
    let i : ℕ = x.0 in
    let claims : (slice_index_or t.board.actors i idle).claim ≡ Some p = claim_is p (slice_index_or t.board.actors i idle).claim x.2 in
    let same : by ≡ i = omega (arith, x.1) in
    let lt : i < length t.actors = omega (arith, claims_within t.board.actors i p claims, k.sound.counted) in
    let at : slice_get t.actors i ≡ Some (actor_in t i) = is_there t i lt in (
      actor_in t i,
      ap (slice_get t.actors) same ∙ at,
      some_has (actor_in t i).claim p (sym (k.sound.each i (actor_in t i) at).holds.claim ∙ claims),
    )

holder_holds : (t : State) → Kept t → (n by : ℕ) → (shard_at t.shards n).holder ≡ Some by → (r : Actor) × (slice_get t.actors by ≡ Some r) × (has_shard r ≡ true)
holder_holds t k n by h =
    let x = k.sound.holders n by h in
    (x.actor, x.there, some_has x.actor.shard n x.shard)

-- What holds a job up, and what its actor holds then: a shard of another actor, or a leaf of another actor.
abbrev Stuck : State → ℕ → Type 0
Stuck t k =
    ((actor_in t k).claim ≡ None)
    × ((((actor_in t k).shard ≡ None) × (n : ℕ) × IsOther (shard_at t.shards n).holder k) ⊎ ((p : List ℕ) × IsOther (holder_from 0 t.board.actors p) k))

stuck : (t : State) (k : ℕ) (o : Op) → IsHeld o (view_in t k) → Stuck t k
stuck t k (Insert id vector) (inl h) = (h.leaf, inl (h.shard, home id, shard_held t k (actor_in t k) id h))
stuck t k (Insert id vector) (inr h) = let c = leaf_held t k (actor_in t k) vector h in (h.leaf, inr (c.prefix, c.other))
stuck t k (Delete id) (inl h) = (h.leaf, inl (h.shard, home id, shard_held t k (actor_in t k) id h))
stuck t k (Delete id) (inr h) = let c = leaf_held t k (actor_in t k) h.0.vector h.2 in (h.2.leaf, inr (c.prefix, c.other))
stuck t k (Range radius query) h = absurd h
stuck t k (Nearest count query) h = absurd h

-- where the others hold no leaf, or no shard, none of theirs is met
module _ (s t : State) (k : ℕ) (kept : Kept t) (others : (j : ℕ) → j ≢ k → slice_get t.actors j ≡ slice_get s.actors j) where
  no_leaf_met : NoLeaf s → (p : List ℕ) → IsOther (holder_from 0 t.board.actors p) k → ⊥
  no_leaf_met none p h =
      let x = holder_claims t kept p h.by h.is in
      false≢true (sym (any_false_at has_leaf s.actors h.by x.0 none (sym (others h.by h.other) ∙ x.1)) ∙ x.2)

  no_shard_met : list_any has_shard s.actors ≡ false → (n : ℕ) → IsOther (shard_at t.shards n).holder k → ⊥
  no_shard_met none n h =
      let x = holder_holds t kept n h.by h.is in
      false≢true (sym (any_false_at has_shard s.actors h.by x.0 none (sym (others h.by h.other) ∙ x.1)) ∙ x.2)

  stuck_shard : NoLeaf s → Stuck t k → (actor_in t k).shard ≡ None
  stuck_shard none h = elim h.1 [ inl x ↦ x.0 | inr x ↦ absurd (no_leaf_met none x.0 x.1) ]

  stuck_never : NoClaim s → Stuck t k → ⊥
  stuck_never none h = elim h.1 [ inl x ↦ no_shard_met none.1 x.1 x.2 | inr x ↦ no_leaf_met none.0 x.0 x.1 ]

pub actor_of : (t : State) (k : ℕ) (r : Actor) → slice_get t.actors k ≡ Some r → r ≡ actor_in t k
actor_of t k r at = sym (get_or_from_slice_get t.actors k r first_actor at)

no_claim_of : (t : State) (k : ℕ) → (actor_in t k).claim ≡ None → (r : Actor) → slice_get t.actors k ≡ Some r → has_leaf r ≡ false
no_claim_of t k none r at = none_some r.claim (ap (λ (x : Actor). x.claim) (actor_of t k r at) ∙ none)

no_shard_of : (t : State) (k : ℕ) → (actor_in t k).shard ≡ None → (r : Actor) → slice_get t.actors k ≡ Some r → has_shard r ≡ false
no_shard_of t k none r at = none_some r.shard (ap (λ (x : Actor). x.shard) (actor_of t k r at) ∙ none)

none_at : (s : State) (k : ℕ) (o : Option Job) → o ≡ None → WaitsAt o (view_in s k) → ClaimsNone (view_in s k)
none_at s k None e h = h
none_at s k (Some j) e h = absurd (none-some j (sym e))

none_of : (o : Option Job) → is_none o ≡ true → o ≡ None
none_of None h = refl
none_of (Some j) h = absurd (false≢true h)

-- a session after its block of one operation
relieves_going : (k : ℕ) (script : List Op) (s : State) (a : Seat) (r : Taken) (t : State) (b : Seat) → Kept s → Going k script s a r t b → Relieves k script s a t b
relieves_going k script s a More t b kept g = absurd g.stops
relieves_going k script s a Held t b kept g =
    let others : (j : ℕ) → j ≢ k → slice_get t.actors j ≡ slice_get s.actors j = same_else k s g.made t kept g.is.chained g.is.by g.is.calls in
    let now : Kept t = (later_all s g.made t kept g.is.chained).kept in
    let h : Stuck t k = stuck t k (asked g.stops.1.job) g.stops.1.stands in
    record {
      others = others;
      leaf = no_claim_of t k h.0;
      shard = λ none. no_shard_of t k (stuck_shard s t k now others none h);
      few = g.is.waits.few;
      replies = omega (arith, g.replies);
      ends = λ none _. absurd (stuck_never s t k now others none h);
    }
relieves_going k script s a Ended t b kept g =
    let free : ClaimsNone (view_in t k) = none_at t k b.job g.stops.1 g.is.waits.at in
    record {
      others = same_else k s g.made t kept g.is.chained g.is.by g.is.calls;
      leaf = no_claim_of t k free.nothing.leaf;
      shard = λ _. no_shard_of t k free.nothing.shard;
      few = g.is.waits.few;
      replies = omega (arith, g.replies);
      ends = λ _ _. omega (arith, g.replies);
    }

-- a session that is over claims nothing
pub over_free : (s : State) (k : ℕ) (script : List Op) (a : Seat) → SeatWaits s k script a → is_over script a ≡ true → ClaimsNone (view_in s k)
over_free s k script a waits over = none_at s k a.job (none_of a.job (and_parts (is_none a.job) _ over).0) waits.at

pub relieves_operation : (k : ℕ) (script : List Op) (s : State) (a : Seat) (t : State) (b : Seat) → Kept s → SeatWaits s k script a → OperationMade k script s a t b → Relieves k script s a t b
relieves_operation k script s a t b kept waits (inl h) =
    let free : ClaimsNone (view_in s k) = over_free s k script a waits h.0 in
    let still : Relieves k script s a s a = record {
      others = λ j apart. refl;
      leaf = no_claim_of s k free.nothing.leaf;
      shard = λ _. no_shard_of s k free.nothing.shard;
      few = waits.few;
      replies = omega arith;
      ends = λ _ not. absurd (false≢true (sym not ∙ h.0));
    } in
    subst (λ (x : Seat). Relieves k script s a t x) (sym h.2) (subst (λ (x : State). Relieves k script s a x a) (sym h.1) still)
relieves_operation k script s a t b kept waits (inr h) = relieves_going k script s a h.0 t b kept h.1

-- one seat's replies in the sum
left_set : (scripts : List (List Op)) (seats : List Seat) (n : ℕ) (script : List Op) (a b : Seat) → slice_get scripts n ≡ Some script → slice_get seats n ≡ Some a
    → operations_left scripts (slice_set seats n b) + (length script - length a.replies.items) ≡ operations_left scripts seats + (length script - length b.replies.items)
left_set [] seats n script a b h g = absurd (none-some script h)
left_set (os ∷ scripts) [] n script a b h g = absurd (none-some a g)
left_set (os ∷ scripts) (x ∷ seats) zero script a b h g =
    omega (arith, ap length (same_Some os script h), ap (λ (z : Seat). length z.replies.items) (same_Some x a g))
left_set (os ∷ scripts) (x ∷ seats) (suc n) script a b h g = omega (arith, left_set scripts seats n script a b h g)

module _ (scripts : List (List Op)) (seats : List Seat) (n : ℕ) (script : List Op) (a b : Seat) (at_script : slice_get scripts n ≡ Some script) (at_seat : slice_get seats n ≡ Some a) where
  left_after : length a.replies.items ≤ length b.replies.items → operations_left scripts (slice_set seats n b) ≤ operations_left scripts seats
  left_after le = omega (arith, left_set scripts seats n script a b at_script at_seat, le)

  left_less : length a.replies.items < length b.replies.items → length b.replies.items ≤ length script → operations_left scripts (slice_set seats n b) < operations_left scripts seats
  left_less lt few = omega (arith, left_set scripts seats n script a b at_script at_seat, lt, few)

-- before the first block
pub eased_none : (scripts : List (List Op)) (s : State) (seats : List Seat) → Eased scripts 0 s seats s seats
eased_none scripts s seats = record {
  leaf = λ j r lt. absurd (omega (arith, lt));
  no_leaf = λ h. h;
  shard = λ _ j r lt. absurd (omega (arith, lt));
  none = λ h. h;
  rest = λ j a _ at. at;
  left = omega arith;
  ends = λ _ j os a lt. absurd (omega (arith, lt));
}

module _ (k : ℕ) (script : List Op) (m t : State) (a b : Seat) (h : Relieves k script m a t b) where
  leaf_on : NoLeaf m → NoLeaf t
  leaf_on none = any_false_from has_leaf t.actors (λ j r at. by_number (has_leaf r ≡ false) j k (λ e. h.leaf r (ap (slice_get t.actors) (sym e) ∙ at))
      (λ apart. any_false_at has_leaf m.actors j r none (sym (h.others j apart) ∙ at)))

  claim_on : NoClaim m → NoClaim t
  claim_on none = (
    leaf_on none.0,
    any_false_from has_shard t.actors (λ j r at. by_number (has_shard r ≡ false) j k (λ e. h.shard none.0 r (ap (slice_get t.actors) (sym e) ∙ at))
        (λ apart. any_false_at has_shard m.actors j r none.1 (sym (h.others j apart) ∙ at))),
  )

-- one more session's block
pub eased_more : (scripts : List (List Op)) (n : ℕ) (s : State) (seats : List Seat) (m : State) (between : List Seat) (t : State) (others : List Seat)
    → Eased scripts n s seats m between → Relieved scripts n m between t others → Eased scripts (n + 1) s seats t others
eased_more scripts n s seats m between t others e h =
    let r = h.relieves in
    let b : Seat = h.b in
    let below : (j : ℕ) → j < n + 1 → j ≢ n → j < n = λ j lt apart. omega (arith, lt, apart) in
    let lower : operations_left scripts others ≤ operations_left scripts between =
    subst (λ (x : List Seat). operations_left scripts x ≤ operations_left scripts between) (sym h.is) (left_after scripts between n h.script h.a b h.at_script h.at_seat r.replies) in
    record {
      leaf = λ j x lt at. by_number (has_leaf x ≡ false) j n (λ same. r.leaf x (ap (slice_get t.actors) (sym same) ∙ at)) (λ apart. e.leaf j x (below j lt apart) (sym (r.others j apart) ∙ at));
      no_leaf = λ no. leaf_on n h.script m t h.a b r (e.no_leaf no);
      shard = λ no j x lt at. by_number (has_shard x ≡ false) j n (λ same. r.shard (e.no_leaf no) x (ap (slice_get t.actors) (sym same) ∙ at))
          (λ apart. e.shard no j x (below j lt apart) (sym (r.others j apart) ∙ at));
      none = λ no. claim_on n h.script m t h.a b r (e.none no);
      rest = λ j a le at.
          let apart : j ≢ n = λ same. absurd (omega (arith, le, same)) in
          e.rest j a (omega (arith, le)) (sym (set_else between n j b apart) ∙ ap (λ (x : List Seat). slice_get x j) (sym h.is) ∙ at);
      left = omega (arith, e.left, lower);
      ends = λ no j os a lt at_os at_a not. by_number (operations_left scripts others < operations_left scripts seats) j n
          (λ same.
          let os_is : os ≡ h.script = one_of scripts n j h.script os h.at_script same at_os in
          let a_is : a ≡ h.a = one_of seats n j h.a a (e.rest n h.a (omega arith) h.at_seat) same at_a in
          let not_over : is_over h.script h.a ≡ false = subst (λ (x : List Op). is_over x h.a ≡ false) os_is (subst (λ (x : Seat). is_over os x ≡ false) a_is not) in
          let less : operations_left scripts others < operations_left scripts between = subst (λ (x : List Seat). operations_left scripts x < operations_left scripts between) (sym h.is)
          (left_less scripts between n h.script h.a b h.at_script h.at_seat (r.ends (e.none no) not_over) r.few) in
          omega (arith, less, e.left))
          (λ apart. omega (arith, lower, e.ends no j os a (below j lt apart) at_os at_a not));
    }

-- the splitter's block
pub rested : (scripts : List (List Op)) (s : State) (seats : List Seat) (x y : SplitterSeat) (t : State) → TableWaits scripts s seats x → SplitterGoing (length scripts) s x t y → Rested (length scripts) s t y
rested scripts s seats x y t w g = record {
  others = same_else (length scripts) s g.made t w.kept g.is.chained g.is.by g.is.calls;
  leaf = no_claim_of t (length scripts) g.claims.nothing.leaf;
  shard = no_shard_of t (length scripts) g.claims.nothing.shard;
  rests = g.over;
}

-- a round
module _ (scripts : List (List Op)) (s : State) (seats others : List Seat) (x : SplitterSeat) (m t : State) (y : SplitterSeat) (seats_are : length seats ≡ length scripts)
    (count : length t.actors ≡ length scripts + 1) (e : Eased scripts (length scripts) s seats m others) (r : Rested (length scripts) m t y) where
  below_last : (j : ℕ) (q : Actor) → slice_get t.actors j ≡ Some q → j ≢ length scripts → j < length scripts
  below_last j q at apart = omega (arith, count, slice_get_within t.actors j q at, apart)

  no_leaf_after : NoLeaf t
  no_leaf_after = any_false_from has_leaf t.actors (λ j q at. by_number (has_leaf q ≡ false) j (length scripts)
      (λ same. r.leaf q (ap (slice_get t.actors) (sym same) ∙ at))
      (λ apart. e.leaf j q (below_last j q at apart) (sym (r.others j apart) ∙ at)))

  no_claim_after : NoLeaf s → NoClaim t
  no_claim_after none = (
    no_leaf_after,
    any_false_from has_shard t.actors (λ j q at. by_number (has_shard q ≡ false) j (length scripts)
        (λ same. r.shard q (ap (slice_get t.actors) (sym same) ∙ at))
        (λ apart. e.shard none j q (below_last j q at apart) (sym (r.others j apart) ∙ at))),
  )

  ends_in : NotOver scripts seats x → NoClaim s → (is_some x.care.task ≡ true) ⊎ (operations_left scripts others < operations_left scripts seats)
  ends_in (inl c) none = inl c
  ends_in (inr h) none = inr (e.ends none h.0 h.1 h.2 (slice_get_within scripts h.0 h.1 h.3) h.3 h.4 h.5)

  phase_one : (p q : Bool) → p ≡ false → phase_at p q ≤ 1
  phase_one true q h = absurd (false≢true (sym h))
  phase_one false true h = omega arith
  phase_one false false h = omega arith

  phase_none : (p q : Bool) → p ≡ false → q ≡ false → phase_at p q ≡ 0
  phase_none true q h g = absurd (false≢true (sym h))
  phase_none false true h g = absurd (false≢true (sym g))
  phase_none false false h g = refl

  falls_with : (p q under : Bool) (last left left_now : ℕ) → last ≤ 1 → (p ≡ false → last ≡ 0) → left_now ≤ left → ((p ≡ false) × (q ≡ false) → (under ≡ true) ⊎ (left_now < left))
      → left_now + last < left + phase_at p q + cond under 1 0
  falls_with true q under last left left_now one none le ends = omega (arith, one, le)
  falls_with false true under last left left_now one none le ends = omega (arith, none refl, le)
  falls_with false false under last left left_now one none le ends =
      elim (ends (refl, refl)) [ inl is ↦ omega (arith, none refl, le, ap {B = ℕ} (λ z. cond z 1 0) is) | inr lt ↦ omega (arith, none refl, lt) ]

  fewer : NotOver scripts seats x → rounds_left scripts t others y < rounds_left scripts s seats x
  fewer not =
      let p : Bool = list_any has_leaf s.actors in
      let q : Bool = list_any has_shard s.actors in
      let one : phase t ≤ 1 = phase_one (list_any has_leaf t.actors) (list_any has_shard t.actors) no_leaf_after in
      let none : p ≡ false → phase t ≡ 0 = λ no. (let h = no_claim_after no in phase_none (list_any has_leaf t.actors) (list_any has_shard t.actors) h.0 h.1) in
      omega (arith, falls_with p q (is_some x.care.task) (phase t) (operations_left scripts seats) (operations_left scripts others) one none e.left (ends_in not), ap {B = ℕ} (λ z. cond (is_some z) 1 0) r.rests)

  pub eases : Eases scripts s seats x t others y
  eases = record { rests = r.rests; fewer = fewer }
