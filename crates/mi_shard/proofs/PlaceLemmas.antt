-- Where the records of a shard stand, and what one more or one less makes of that.
use Rattle.std.proofs.Common.{◌≡◌, ◌≢◌, ◌≤◌, ◌<◌, ◌+◌, ◌==◌, ℕ, suc, zero, List, [], ◌∷◌, ◌++◌, length, Bool, true, false, not, cond, nat_eq, refl, sym, ap, ◌∙◌, subst, arith, inl, inr, set, Option, Some, None, is_some, eq-eqb, append-nil, length-append, drop, take}
use Rattle.std.specs.Prelude.{slice_get}
use Rattle.std.specs.List.{AllByRecursion, IsDistinct, filter, find}
use Rattle.std.specs.HashMap.{HashMap, get, hash_map_len}
use Rattle.std.specs.Map.{lookup}
use Rattle.std.proofs.lemmas.Bool.{cases_eq, eqb-true, false≢true, ne_eqb}
use Rattle.std.proofs.lemmas.List.{length-take, length-take-le, take-append-drop, take_more}
use Rattle.std.proofs.lemmas.List.Elements.{filter_map-append}
use Rattle.std.proofs.lemmas.Map.Keys.{IsDistinct-cons, IsDistinct-head, IsDistinct-tail}
use Rattle.std.proofs.lemmas.Option.{get_or_from_slice_get, none-some, same_Some, slice_get_within}
use Rattle.mi_entries.proofs.EntryLemmas.{get_last, get_more}
use Rattle.mi_entries.specs.Records.{ShardRecord}
use Rattle.mi_tree.proofs.ListLemmas.{filter_all}
use Rattle.mi_shard.specs.Places.{ArePlaces, StandsAt, present}

is_false : (b : Bool) → (b ≡ true → ⊥) → b ≡ false
is_false true h = absurd (h refl)
is_false false h = refl

-- there are no more records than places
pub few : (rows : List (Option ShardRecord)) → length (present rows) ≤ length rows
few [] = omega arith
few (None ∷ rows) = omega (arith, few rows)
few (Some x ∷ rows) = omega (arith, few rows)

-- without the gaps the records are the same, and stand at all places
pub closed : (rows : List (Option ShardRecord)) → present (filter is_some rows) ≡ present rows
closed [] = refl
closed (None ∷ rows) = closed rows
closed (Some x ∷ rows) = ap (λ xs. x ∷ xs) (closed rows)

pub closed_length : (rows : List (Option ShardRecord)) → length (filter is_some rows) ≡ length (present rows)
closed_length [] = refl
closed_length (None ∷ rows) = closed_length rows
closed_length (Some x ∷ rows) = ap suc (closed_length rows)

-- a record that stands beside a gap stood there before it, and the other way round
beside : (rows : List (Option ShardRecord)) (place q : ℕ) (x : ShardRecord) → StandsAt (set rows place None) q x → StandsAt rows q x × (q ≢ place)
beside [] place q x s = absurd (none-some (Some x) s)
beside (r ∷ rows) zero zero x s = absurd (none-some x (same_Some None (Some x) s))
beside (r ∷ rows) zero (suc q) x s = (s, λ e. omega arith)
beside (r ∷ rows) (suc place) zero x s = (s, λ e. omega arith)
beside (r ∷ rows) (suc place) (suc q) x s = let b = beside rows place q x s in (b.0, λ e. b.1 (omega arith))

aside : (rows : List (Option ShardRecord)) (place q : ℕ) (x : ShardRecord) → StandsAt rows q x → q ≢ place → StandsAt (set rows place None) q x
aside [] place q x s other = s
aside (r ∷ rows) zero zero x s other = absurd (other refl)
aside (r ∷ rows) zero (suc q) x s other = s
aside (r ∷ rows) (suc place) zero x s other = s
aside (r ∷ rows) (suc place) (suc q) x s other = aside rows place q x s (λ e. other (ap suc e))

-- what stands in rows with one more stood there, or is that one
at_either : (rows : List (Option ShardRecord)) (r : Option ShardRecord) (q : ℕ) (x : ShardRecord) → StandsAt (rows ++ r ∷ []) q x → q ≢ length rows → StandsAt rows q x
at_either [] r zero x s other = absurd (other refl)
at_either [] r (suc q) x s other = absurd (none-some (Some x) s)
at_either (y ∷ rows) r zero x s other = s
at_either (y ∷ rows) r (suc q) x s other = at_either rows r q x s (λ e. other (ap suc e))

the_last : (rows : List (Option ShardRecord)) (r : Option ShardRecord) (q : ℕ) (x : ShardRecord) → StandsAt (rows ++ r ∷ []) q x → q ≡ length rows → r ≡ Some x
the_last rows r q x s e = same_Some r (Some x) (sym (get_last rows r) ∙ ap (slice_get (rows ++ r ∷ [])) (sym e) ∙ s)

-- a gap in place of a record is a record less
one_less : (rows : List (Option ShardRecord)) (place : ℕ) (x : ShardRecord) → StandsAt rows place x → length (present (set rows place None)) + 1 ≡ length (present rows)
one_less [] place x s = absurd (none-some (Some x) s)
one_less (r ∷ rows) zero x s = let e : length (present (r ∷ rows)) ≡ length (present (Some x ∷ rows)) = ap (λ (o : Option ShardRecord). length (present (o ∷ rows))) (same_Some r (Some x) s) in omega (arith, e)
one_less (None ∷ rows) (suc place) x s = one_less rows place x s
one_less (Some y ∷ rows) (suc place) x s = omega (arith, one_less rows place x s)

-- what holds of each record where it stands holds of all, and the other way round
each_present : (P : ShardRecord → Type 0) (rows : List (Option ShardRecord)) → ((place : ℕ) (x : ShardRecord) → StandsAt rows place x → P x) → AllByRecursion P (present rows)
each_present P [] h = tt
each_present P (None ∷ rows) h = each_present P rows (λ place x s. h (suc place) x s)
each_present P (Some x ∷ rows) h = (h 0 x refl, each_present P rows (λ place y s. h (suc place) y s))

present_each : (P : ShardRecord → Type 0) (rows : List (Option ShardRecord)) → AllByRecursion P (present rows) → (place : ℕ) (x : ShardRecord) → StandsAt rows place x → P x
present_each P [] h place x s = absurd (none-some (Some x) s)
present_each P (None ∷ rows) h zero x s = absurd (none-some x (same_Some None (Some x) s))
present_each P (None ∷ rows) h (suc place) x s = present_each P rows h place x s
present_each P (Some y ∷ rows) h zero x s = subst P (same_Some y x (same_Some (Some y) (Some x) s)) h.0
present_each P (Some y ∷ rows) h (suc place) x s = present_each P rows h.1 place x s

-- no identifier stands twice
abbrev pub AreSingle : List ShardRecord → Type 0
AreSingle = IsDistinct (λ x y. x.id == y.id)

abbrev StandOnce : List (Option ShardRecord) → Type 0
StandOnce rows = (p q : ℕ) (x y : ShardRecord) → StandsAt rows p x → StandsAt rows q y → x.id ≡ y.id → p ≡ q

single_of : (rows : List (Option ShardRecord)) → StandOnce rows → AreSingle (present rows)
unfolding IsDistinct
single_of [] h = tt
single_of (None ∷ rows) h = single_of rows (λ p q x y s t e. omega (arith, h (suc p) (suc q) x y s t e))
single_of (Some x ∷ rows) h =
    IsDistinct-cons (λ (x y : ShardRecord). x.id == y.id) x (present rows)
    (each_present (λ y. (x.id == y.id) ≡ false) rows (λ place y s. is_false (x.id == y.id) (λ b. absurd (omega (arith, h 0 (suc place) x y refl s (eqb-true x.id y.id b))))))
    (single_of rows (λ p q y z s t e. omega (arith, h (suc p) (suc q) y z s t e)))

apart : (rows : List (Option ShardRecord)) → AreSingle (present rows) → (p q : ℕ) (x y : ShardRecord) → p < q → StandsAt rows p x → StandsAt rows q y → x.id ≢ y.id
apart [] h p q x y low s t = absurd (none-some (Some x) s)
apart (r ∷ rows) h p zero x y low s t = absurd (omega arith)
apart (None ∷ rows) h zero (suc q) x y low s t = absurd (none-some x (same_Some None (Some x) s))
apart (None ∷ rows) h (suc p) (suc q) x y low s t = apart rows h p q x y (omega arith) s t
apart (Some z ∷ rows) h zero (suc q) x y low s t =
    let e : ShardRecord → ShardRecord → Bool = λ x y. x.id == y.id in
    let differ : (z.id == y.id) ≡ false = present_each (λ (w : ShardRecord). e z w ≡ false) rows (IsDistinct-head e z (present rows) h) q y t in
    λ same. false≢true (sym differ ∙ eq-eqb z.id y.id (ap (λ (w : ShardRecord). w.id) (same_Some z x (same_Some (Some z) (Some x) s)) ∙ same))
apart (Some z ∷ rows) h (suc p) (suc q) x y low s t = apart rows (IsDistinct-tail (λ (x y : ShardRecord). x.id == y.id) z (present rows) h) p q x y (omega arith) s t

-- a test that no record passes, and one that only a record at this place passes
module _ (t : ShardRecord → Bool) where
  abbrev PassesNowhere : List (Option ShardRecord) → Type 0
  PassesNowhere rows = (place : ℕ) (x : ShardRecord) → StandsAt rows place x → t x ≡ false

  abbrev PassesOnlyAt : List (Option ShardRecord) → ℕ → Type 0
  PassesOnlyAt rows place = (q : ℕ) (x : ShardRecord) → StandsAt rows q x → t x ≡ true → q ≡ place

  past : (rows : List (Option ShardRecord)) (r : Option ShardRecord) → PassesOnlyAt (r ∷ rows) 0 → PassesNowhere rows
  past rows r h place x s = is_false (t x) (λ e. absurd (omega (arith, h (suc place) x s e)))

  further : (rows : List (Option ShardRecord)) (r : Option ShardRecord) (place : ℕ) → PassesOnlyAt (r ∷ rows) (suc place) → PassesOnlyAt rows place
  further rows r place h q x s e = omega (arith, h (suc q) x s e)

  before : (rows : List (Option ShardRecord)) (y : ShardRecord) (place : ℕ) → PassesOnlyAt (Some y ∷ rows) (suc place) → t y ≡ false
  before rows y place h = is_false (t y) (λ e. absurd (omega (arith, h 0 y refl e)))

  found_nowhere : (rows : List (Option ShardRecord)) → PassesNowhere rows → find t (present rows) ≡ None
  found_nowhere [] h = refl
  found_nowhere (None ∷ rows) h = found_nowhere rows (λ place x s. h (suc place) x s)
  found_nowhere (Some x ∷ rows) h = ap (λ b. cond b (Some x) (find t (present rows))) (h 0 x refl) ∙ found_nowhere rows (λ place y s. h (suc place) y s)

  out_nowhere : (rows : List (Option ShardRecord)) → PassesNowhere rows → filter (λ x. not (t x)) (present rows) ≡ present rows
  out_nowhere rows h = filter_all (λ x. not (t x)) (present rows) (each_present (λ x. not (t x) ≡ true) rows (λ place x s. ap not (h place x s)))

  -- the record of this place is found
  found_at : (rows : List (Option ShardRecord)) (place : ℕ) (x : ShardRecord) → StandsAt rows place x → t x ≡ true → PassesOnlyAt rows place → find t (present rows) ≡ Some x
  found_at [] place x s e h = absurd (none-some (Some x) s)
  found_at (r ∷ rows) zero x s e h = ap (λ (o : Option ShardRecord). find t (present (o ∷ rows))) (same_Some r (Some x) s) ∙ ap (λ b. cond b (Some x) (find t (present rows))) e
  found_at (None ∷ rows) (suc place) x s e h = found_at rows place x s e (further rows None place h)
  found_at (Some y ∷ rows) (suc place) x s e h =
      ap (λ b. cond b (Some y) (find t (present rows))) (before rows y place h) ∙ found_at rows place x s e (further rows (Some y) place h)

  -- a gap takes the place of the record that is left out
  out_at : (rows : List (Option ShardRecord)) (place : ℕ) (x : ShardRecord) → StandsAt rows place x → t x ≡ true → PassesOnlyAt rows place → present (set rows place None) ≡ filter (λ x. not (t x)) (present rows)
  out_at [] place x s e h = absurd (none-some (Some x) s)
  out_at (r ∷ rows) zero x s e h =
      let rest = filter (λ y. not (t y)) (present rows) in
      sym (ap (λ (o : Option ShardRecord). filter (λ y. not (t y)) (present (o ∷ rows))) (same_Some r (Some x) s) ∙ ap (λ b. cond (not b) (x ∷ rest) rest) e ∙ out_nowhere rows (past rows r h))
  out_at (None ∷ rows) (suc place) x s e h = out_at rows place x s e (further rows None place h)
  out_at (Some y ∷ rows) (suc place) x s e h =
      let rest = filter (λ z. not (t z)) (present rows) in
      ap (λ ys. y ∷ ys) (out_at rows place x s e (further rows (Some y) place h)) ∙ sym (ap (λ b. cond (not b) (y ∷ rest) rest) (before rows y place h))

module _ {S : Type 0} (rows : List (Option ShardRecord)) (m : HashMap ℕ ℕ S) (h : ArePlaces rows m) where
  -- where an identifier has no place it has no record, and else only the one there
  unplaced : (id : ℕ) → get nat_eq m id ≡ None → PassesNowhere (λ x. x.id == id) rows
  unplaced id e place x s = is_false (x.id == id) (λ b. none-some place (sym e ∙ ap (get nat_eq m) (sym (eqb-true x.id id b)) ∙ h.there place x s))

  placed : (id place : ℕ) → get nat_eq m id ≡ Some place → PassesOnlyAt (λ x. x.id == id) rows place
  placed id place e q x s b = same_Some q place (sym (h.there q x s) ∙ ap (get nat_eq m) (eqb-true x.id id b) ∙ e)

  pub none_at : (id : ℕ) → get nat_eq m id ≡ None → find (λ x. x.id == id) (present rows) ≡ None
  none_at id e = found_nowhere (λ x. x.id == id) rows (unplaced id e)

  pub all_stay : (id : ℕ) → get nat_eq m id ≡ None → filter (λ x. not (x.id == id)) (present rows) ≡ present rows
  all_stay id e = out_nowhere (λ x. x.id == id) rows (unplaced id e)

  pub one_at : (id place : ℕ) → get nat_eq m id ≡ Some place → (x : ShardRecord) × StandsAt rows place x × (find (λ y. y.id == id) (present rows) ≡ Some x)
  one_at id place e =
      let o = h.only id place e in
      (o.0, o.1, found_at (λ y. y.id == id) rows place o.0 o.1 (eq-eqb o.0.id id o.2) (placed id place e))

  pub others_stay : (id place : ℕ) → get nat_eq m id ≡ Some place → present (set rows place None) ≡ filter (λ x. not (x.id == id)) (present rows)
  others_stay id place e = let o = h.only id place e in out_at (λ y. y.id == id) rows place o.0 o.1 (eq-eqb o.0.id id o.2) (placed id place e)

  pub fewer : (id place : ℕ) → get nat_eq m id ≡ Some place → length (present (set rows place None)) + 1 ≡ hash_map_len m
  fewer id place e = let o = h.only id place e in one_less rows place o.0 o.1 ∙ sym h.count

  pub no_place : (id : ℕ) → find (λ x. x.id == id) (present rows) ≡ None → get nat_eq m id ≡ None
  no_place id e =
      let P : Option ℕ → Type 0 = λ o. get nat_eq m id ≡ o → o ≡ None in
      (elim (get nat_eq m id) as P [ None ↦ λ g. refl | Some place ↦ λ g. let o = one_at id place g in absurd (none-some o.0 (sym e ∙ o.2)) ]) refl

  -- no identifier stands twice, also with a gap more
  pub single : AreSingle (present rows)
  single = single_of rows (λ p q x y s t e. same_Some p q (sym (h.there p x s) ∙ ap (get nat_eq m) e ∙ h.there q y t))

  pub single_less : (place : ℕ) → AreSingle (present (set rows place None))
  single_less place =
      single_of (set rows place None)
      (λ p q x y s t e. same_Some p q (sym (h.there p x (beside rows place p x s).0) ∙ ap (get nat_eq m) e ∙ h.there q y (beside rows place q y t).0))

  -- the places after a gap more, a record more, and a record less
  pub gap_more : ArePlaces (rows ++ None ∷ []) m
  gap_more = record {
    there = λ q x s. h.there q x (at_either rows None q x s (λ e. none-some x (the_last rows None q x s e)));
    only = λ id place e. let o = h.only id place e in (o.0, get_more rows (None ∷ []) place (Some o.0) o.1, o.2);
    count = h.count ∙ ap length (sym (filter_map-append (λ row. row) rows (None ∷ []) ∙ append-nil (present rows)));
  }

  pub record_more : (n : HashMap ℕ ℕ S) (x : ShardRecord) → get nat_eq m x.id ≡ None → ((id : ℕ) → (x.id == id) ≡ false → get nat_eq n id ≡ get nat_eq m id) → get nat_eq n x.id ≡ Some (length rows)
      → hash_map_len n ≡ hash_map_len m + 1 → ArePlaces (rows ++ Some x ∷ []) n
  record_more n x new others here count = record {
    there = λ q y s. elim (cases_eq q (length rows)) [
      | inl e ↦ ap (λ (z : ShardRecord). get nat_eq n z.id) (sym (same_Some x y (the_last rows (Some x) q y s e))) ∙ here ∙ ap Some (sym e)
      | inr other ↦
          let was = h.there q y (at_either rows (Some x) q y s other) in
          others y.id (is_false (x.id == y.id) (λ b. none-some q (sym new ∙ ap (get nat_eq m) (eqb-true x.id y.id b) ∙ was))) ∙ was
    ];
    only = λ id place e. elim (cases_eq x.id id) [
      | inl same ↦
          let at : length rows ≡ place = same_Some (length rows) place (sym here ∙ ap (get nat_eq n) same ∙ e) in
          (x, subst (λ p. StandsAt (rows ++ Some x ∷ []) p x) at (get_last rows (Some x)), same)
      | inr other ↦
          let o = h.only id place (sym (others id (ne_eqb x.id id other)) ∙ e) in
          (o.0, get_more rows (Some x ∷ []) place (Some o.0) o.1, o.2)
    ];
    count = count ∙ ap (λ n. n + 1) h.count ∙ sym (ap length (filter_map-append (λ row. row) rows (Some x ∷ [])) ∙ length-append (present rows) (x ∷ []));
  }

  pub record_less : (n : HashMap ℕ ℕ S) (id place : ℕ) → get nat_eq m id ≡ Some place → ((other : ℕ) → (id == other) ≡ false → get nat_eq n other ≡ get nat_eq m other) → get nat_eq n id ≡ None
      → hash_map_len n + 1 ≡ hash_map_len m → ArePlaces (set rows place None) n
  record_less n id place e others gone count =
      let o = h.only id place e in
      record {
        there = λ q y s.
            let b = beside rows place q y s in
            let was = h.there q y b.0 in
            others y.id (is_false (id == y.id) (λ t. b.1 (same_Some q place (sym was ∙ ap (get nat_eq m) (sym (eqb-true id y.id t)) ∙ e)))) ∙ was;
        only = λ other q g.
            let differ : (id == other) ≡ false = is_false (id == other) (λ t. none-some q (sym gone ∙ ap (get nat_eq n) (eqb-true id other t) ∙ g)) in
            let was = h.only other q (sym (others other differ) ∙ g) in
            let same : q ≡ place → other ≡ id = λ f. sym was.2 ∙ ap (λ (z : ShardRecord). z.id) (same_Some was.0 o.0 (same_Some (Some was.0) (Some o.0) (sym was.1 ∙ ap (slice_get rows) f ∙ o.1))) ∙ o.2 in
            (was.0, aside rows place q was.0 was.1 (λ f. false≢true (sym differ ∙ eq-eqb id other (sym (same f)))), was.2);
        count = omega (arith, count, fewer id place e);
      }

  -- the same places in a map of another layout
  pub moved : (n : HashMap ℕ ℕ S) → ((id : ℕ) → get nat_eq n id ≡ get nat_eq m id) → hash_map_len n ≡ hash_map_len m → ArePlaces rows n
  moved n same count = record {
    there = λ place x s. same x.id ∙ h.there place x s;
    only = λ id place e. h.only id place (sym (same id) ∙ e);
    count = count ∙ h.count;
  }

-- an empty map has the places of no records
pub nowhere : {S : Type 0} (m : HashMap ℕ ℕ S) → m.entries ≡ [] → ArePlaces [] m
nowhere m e = record {
  there = λ place x s. absurd (none-some (Some x) s);
  only = λ id place g. absurd (none-some place (sym (ap (λ es. lookup (nat_eq id) es) e) ∙ g));
  count = ap length e;
}

-- where records stand once, the identifier of the one at a place has none before it
pub not_before : {S : Type 0} (rows : List (Option ShardRecord)) (place : ℕ) (m : HashMap ℕ ℕ S) (x : ShardRecord) → AreSingle (present rows) → ArePlaces (take place rows) m → StandsAt rows place x → get nat_eq m x.id ≡ None
not_before rows place m x once h s =
    let P : Option ℕ → Type 0 = λ o. get nat_eq m x.id ≡ o → o ≡ None in
    (elim (get nat_eq m x.id) as P [
      | None ↦ λ g. refl
      | Some q ↦ λ g.
          let o = h.only x.id q g in
          let low : q < place = omega (arith, slice_get_within (take place rows) q (Some o.0) o.1, length-take place rows) in
          let at : StandsAt rows q o.0 = ap (λ (l : List (Option ShardRecord)). slice_get l q) (sym (take-append-drop place rows)) ∙ get_more (take place rows) (drop place rows) q (Some o.0) o.1 in
          absurd (apart rows once q place o.0 x low at s o.2)
    ]) refl

-- there are fewer before it
pub fewer_before : (rows : List (Option ShardRecord)) (place : ℕ) (x : ShardRecord) → StandsAt rows place x → length (present (take place rows)) < length (present rows)
fewer_before [] place x s = absurd (none-some (Some x) s)
fewer_before (r ∷ rows) zero x s = let e : length (present (r ∷ rows)) ≡ length (present (Some x ∷ rows)) = ap (λ (o : Option ShardRecord). length (present (o ∷ rows))) (same_Some r (Some x) s) in omega (arith, e)
fewer_before (None ∷ rows) (suc place) x s = fewer_before rows place x s
fewer_before (Some y ∷ rows) (suc place) x s = omega (arith, fewer_before rows place x s)

-- the places of the rows up to one, with that one
module _ {S : Type 0} (rows : List (Option ShardRecord)) (place : ℕ) (m : HashMap ℕ ℕ S) (h : ArePlaces (take place rows) m) where
  one_further : (r : Option ShardRecord) → slice_get rows place ≡ Some r → take (place + 1) rows ≡ take place rows ++ r ∷ []
  one_further r s = take_more rows place r (slice_get_within rows place r s) ∙ ap (λ o. take place rows ++ o ∷ []) (get_or_from_slice_get rows place r r s)

  pub gap_further : slice_get rows place ≡ Some None → ArePlaces (take (place + 1) rows) m
  gap_further s = subst (λ l. ArePlaces l m) (sym (one_further None s)) (gap_more (take place rows) m h)

  pub record_further : (n : HashMap ℕ ℕ S) (x : ShardRecord) → AreSingle (present rows) → StandsAt rows place x → ((id : ℕ) → (x.id == id) ≡ false → get nat_eq n id ≡ get nat_eq m id) → get nat_eq n x.id ≡ Some place
      → hash_map_len n ≡ hash_map_len m + 1 → ArePlaces (take (place + 1) rows) n
  record_further n x once s others here count =
      let long : length (take place rows) ≡ place = let low = slice_get_within rows place (Some x) s in length-take-le place rows (omega arith) in
      subst (λ l. ArePlaces l n) (sym (one_further (Some x) s)) (record_more (take place rows) m h n x (not_before rows place m x once h s) others (here ∙ ap Some (sym long)) count)
