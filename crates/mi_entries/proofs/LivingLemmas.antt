-- Which objects live: those that were inserted and not deleted since.
use Rattle.std.proofs.Common.{◌≡◌, ℕ, ℤ, suc, zero, ◌+◌, ◌-◌, ◌<◌, ◌≤◌, ◌==◌, List, [], ◌∷◌, length, drop, map, Bool, true, false, cond, not, ◌&&◌, ◌||◌, refl, sym, ap, ◌∙◌, subst, arith, Some, eq-eqb}
use Rattle.std.specs.Prelude.{slice_get}
use Rattle.std.specs.List.{filter, list_any}
use Rattle.std.proofs.lemmas.Bool.{and_from, eqb-true, false≢true, ne_eqb, or_parts}
use Rattle.mi_base.specs.declared.records.LogEvent.{LogEvent}
use Rattle.mi_base.specs.declared.records.Update.{Update}
use Rattle.mi_base.specs.declared.records.Update.TheVariants.{Insert, Delete}
use Rattle.mi_base.specs.Configuration.{Configuration}
use Rattle.mi_base.specs.History.{Object, is_among, live, updates_of}
use Rattle.mi_base.proofs.SortingLemmas.{same_filter, same_length}
use Rattle.mi_tree.specs.Legal.{LegalLog}
use Rattle.mi_tree.proofs.LegalLemmas.{one_live}
use Rattle.mi_tree.specs.Births.{Born, born, born_after, born_from}
use Rattle.mi_entries.specs.Deaths.{deletes}
use Rattle.std.proofs.lemmas.Option.{none-some, same_Some}
use Rattle.mi_entries.proofs.RecordLemmas.{born_live, object}
use Rattle.mi_entries.proofs.FilterLemmas.{and_no, no_and, not_true}
use Rattle.mi_tree.proofs.ListLemmas.{all_any, filter_map, filter_none, filter_twice}

-- an object of this identifier and birth
abbrev pub born_at : ℕ → ℕ → Born → Bool
born_at id birth o = (o.id == id) && (o.birth == birth)

or_right : (a : Bool) → (a || true) ≡ true
or_right true = refl
or_right false = refl

any_kept : (id birth i : ℕ) (os : List Born) → (i == id) ≡ false → list_any (born_at id birth) (filter (λ o. not (o.id == i)) os) ≡ list_any (born_at id birth) os
any_kept id birth i [] h = refl
any_kept id birth i (o ∷ os) h =
    let P : Bool → Type 0 = λ b. (o.id == i) ≡ b → list_any (born_at id birth) (cond (not b) (o ∷ filter (λ x. not (x.id == i)) os) (filter (λ x. not (x.id == i)) os)) ≡ (born_at id birth o || list_any (born_at id birth) os) in
    (elim (o.id == i) as P [
      | true ↦ λ e.
          let other : (o.id == id) ≡ false = ap (λ n. n == id) (eqb-true o.id i e) ∙ h in
          any_kept id birth i os h ∙ sym (ap (λ b. b || list_any (born_at id birth) os) (no_and (o.id == id) (o.birth == birth) other))
      | false ↦ λ e. ap (λ b. born_at id birth o || b) (any_kept id birth i os h)
    ]) refl

-- what lives stays alive until it is deleted
stays : (n id birth : ℕ) (os : List Born) (us : List Update) → list_any (deletes id) us ≡ false → list_any (born_at id birth) os ≡ true → list_any (born_at id birth) (born_from n os us) ≡ true
stays n id birth os [] h t = t
stays n id birth os (Insert i v ∷ us) h t = stays (n + 1) id birth (record { id = i; vector = v; birth = n + 1 } ∷ os) us h (rw t (or_right (born_at id birth (record { id = i; vector = v; birth = n + 1 }))))
stays n id birth os (Delete i ∷ us) h t =
    let both = or_parts (i == id) (list_any (deletes id) us) h in
    stays (n + 1) id birth (filter (λ o. not (o.id == i)) os) us both.1 (any_kept id birth i os both.0 ∙ t)

inserted : (n id i : ℕ) (v : List ℤ) (os : List Born) (us : List Update) → slice_get us i ≡ Some (Insert id v) → list_any (deletes id) (drop (suc i) us) ≡ false → list_any (born_at id (n + i + 1)) (born_from n os us) ≡ true
inserted n id i v os [] h t = absurd (none-some (Insert id v) h)
inserted n id zero v os (u ∷ us) h t =
    let is : u ≡ Insert id v = same_Some u (Insert id v) h in
    subst (λ (x : Update). list_any (born_at id (n + 0 + 1)) (born_from (n + 1) (born_after (n + 1) os x) us) ≡ true) (sym is)
    (stays (n + 1) id (n + 0 + 1) (record { id = id; vector = v; birth = n + 1 } ∷ os) us t
    (ap (λ b. b || list_any (born_at id (n + 0 + 1)) os) (and_from (id == id) ((n + 1) == (n + 0 + 1)) (eq-eqb id id refl) (eq-eqb (n + 1) (n + 0 + 1) (omega arith)))))
inserted n id (suc i) v os (u ∷ us) h t =
    subst (λ (m : ℕ). list_any (born_at id m) (born_from (n + 1) (born_after (n + 1) os u) us) ≡ true) (omega arith) (inserted (n + 1) id i v (born_after (n + 1) os u) us h t)

-- an object that was inserted, and not deleted since
pub lives_on : (us : List Update) (id birth : ℕ) (v : List ℤ) → 0 < birth → slice_get us (birth - 1) ≡ Some (Insert id v) → list_any (deletes id) (drop birth us) ≡ false → list_any (born_at id birth) (born us) ≡ true
lives_on us id zero v some h t = absurd (omega arith)
lives_on us id (suc i) v some h t =
    let e : suc i - 1 ≡ i = omega arith in
    subst (λ (b : ℕ). list_any (born_at id b) (born us) ≡ true) (omega arith) (inserted 0 id i v [] us (ap (slice_get us) (sym e) ∙ h) t)

gone : (n id birth : ℕ) (os : List Born) (us : List Update) → birth ≤ n → list_any (born_at id birth) os ≡ false → list_any (born_at id birth) (born_from n os us) ≡ false
gone n id birth os [] le h = h
gone n id birth os (Insert i v ∷ us) le h =
    gone (n + 1) id birth (record { id = i; vector = v; birth = n + 1 } ∷ os) us (omega arith)
    (ap (λ b. b || list_any (born_at id birth) os) (and_no (i == id) ((n + 1) == birth) (ne_eqb (n + 1) birth (λ e. omega arith))) ∙ h)
gone n id birth os (Delete i ∷ us) le h = gone (n + 1) id birth (filter (λ o. not (o.id == i)) os) us (omega arith) (none_more os h)
  where
    none_more : (os : List Born) → list_any (born_at id birth) os ≡ false → list_any (born_at id birth) (filter (λ o. not (o.id == i)) os) ≡ false
    none_more [] h = refl
    none_more (o ∷ os) h =
        let both = or_parts (born_at id birth o) (list_any (born_at id birth) os) h in
        let P : Bool → Type 0 = λ b. list_any (born_at id birth) (cond b (o ∷ filter (λ x. not (x.id == i)) os) (filter (λ x. not (x.id == i)) os)) ≡ false in
        elim (not (o.id == i)) as P [ true ↦ ap (λ b. b || list_any (born_at id birth) (filter (λ x. not (x.id == i)) os)) both.0 ∙ none_more os both.1 | false ↦ none_more os both.1 ]

none_left : (id birth i : ℕ) (os : List Born) → (i == id) ≡ true → list_any (born_at id birth) (filter (λ o. not (o.id == i)) os) ≡ false
none_left id birth i [] h = refl
none_left id birth i (o ∷ os) h =
    let P : Bool → Type 0 = λ b. (o.id == i) ≡ b → list_any (born_at id birth) (cond (not b) (o ∷ filter (λ x. not (x.id == i)) os) (filter (λ x. not (x.id == i)) os)) ≡ false in
    (elim (o.id == i) as P [
      | true ↦ λ e. none_left id birth i os h
      | false ↦ λ e.
          let other : (o.id == id) ≡ false = ap (λ n. o.id == n) (sym (eqb-true i id h)) ∙ e in
          ap (λ b. b || list_any (born_at id birth) (filter (λ x. not (x.id == i)) os)) (no_and (o.id == id) (o.birth == birth) other) ∙ none_left id birth i os h
    ]) refl

deleted : (n id birth : ℕ) (os : List Born) (us : List Update) → birth ≤ n → list_any (deletes id) us ≡ true → list_any (born_at id birth) (born_from n os us) ≡ false
deleted n id birth os [] le h = absurd (false≢true h)
deleted n id birth os (Insert i v ∷ us) le h = deleted (n + 1) id birth (record { id = i; vector = v; birth = n + 1 } ∷ os) us (omega arith) h
deleted n id birth os (Delete i ∷ us) le h =
    let P : Bool → Type 0 = λ b. (i == id) ≡ b → (b || list_any (deletes id) us) ≡ true → list_any (born_at id birth) (born_from (n + 1) (filter (λ o. not (o.id == i)) os) us) ≡ false in
    (elim (i == id) as P [
      | true ↦ λ e _. gone (n + 1) id birth (filter (λ o. not (o.id == i)) os) us (omega arith) (none_left id birth i os e)
      | false ↦ λ e r. deleted (n + 1) id birth (filter (λ o. not (o.id == i)) os) us (omega arith) r
    ]) refl h

deleted_since : (n id m : ℕ) (os : List Born) (us : List Update) → list_any (deletes id) (drop m us) ≡ true → list_any (born_at id (n + m)) (born_from n os us) ≡ false
deleted_since n id zero os us h = deleted n id (n + 0) os us (omega arith) h
deleted_since n id (suc m) os [] h = absurd (false≢true h)
deleted_since n id (suc m) os (u ∷ us) h =
    let e : n + 1 + m ≡ n + suc m = omega arith in
    subst (λ (b : ℕ). list_any (born_at id b) (born_from (n + 1) (born_after (n + 1) os u) us) ≡ false) e (deleted_since (n + 1) id m (born_after (n + 1) os u) us h)

-- what lives wasn't deleted since its birth
pub not_deleted : (us : List Update) (id birth : ℕ) → list_any (born_at id birth) (born us) ≡ true → list_any (deletes id) (drop birth us) ≡ false
not_deleted us id birth h = not_true (list_any (deletes id) (drop birth us)) (λ t.
    let none : list_any (born_at id birth) (born us) ≡ false = subst (λ (b : ℕ). list_any (born_at id b) (born us) ≡ false) (omega arith) (deleted_since 0 id birth [] us t) in
    false≢true (sym none ∙ h))

pub any_among : (id birth : ℕ) (os : List Born) → list_any (born_at id birth) os ≡ true → is_among id (map object os) ≡ true
any_among id birth [] h = absurd (false≢true h)
any_among id birth (o ∷ os) h =
    let P : Bool → Type 0 = λ b. ((b && (o.birth == birth)) || list_any (born_at id birth) os) ≡ true → (b || is_among id (map object os)) ≡ true in
    (elim (o.id == id) as P [ true ↦ λ _. refl | false ↦ λ r. any_among id birth os r ]) h

none_few : (id birth : ℕ) (os : List Born) → length (filter (λ (o : Born). o.id == id) os) ≤ 0 → list_any (born_at id birth) os ≡ false
none_few id birth [] h = refl
none_few id birth (o ∷ os) h =
    let P : Bool → Type 0 = λ b. length (cond b (o ∷ filter (λ (x : Born). x.id == id) os) (filter (λ (x : Born). x.id == id) os)) ≤ 0 → ((b && (o.birth == birth)) || list_any (born_at id birth) os) ≡ false in
    (elim (o.id == id) as P [ true ↦ λ l. absurd (omega arith) | false ↦ λ l. none_few id birth os l ]) h

-- where an identifier stands once it has one birth
one_birth : (id a b : ℕ) (os : List Born) → length (filter (λ (o : Born). o.id == id) os) ≤ 1 → list_any (born_at id a) os ≡ true → list_any (born_at id b) os ≡ true → a ≡ b
one_birth id a b [] h s t = absurd (false≢true s)
one_birth id a b (o ∷ os) h s t =
    let P : Bool → Type 0 = λ z. length (cond z (o ∷ filter (λ (x : Born). x.id == id) os) (filter (λ (x : Born). x.id == id) os)) ≤ 1
    → ((z && (o.birth == a)) || list_any (born_at id a) os) ≡ true → ((z && (o.birth == b)) || list_any (born_at id b) os) ≡ true → a ≡ b in
    (elim (o.id == id) as P [
      | true ↦ λ l x y.
          let none : length (filter (λ (x : Born). x.id == id) os) ≤ 0 = omega arith in
          sym (eqb-true o.birth a (last (o.birth == a) (list_any (born_at id a) os) (none_few id a os none) x)) ∙ eqb-true o.birth b (last (o.birth == b) (list_any (born_at id b) os) (none_few id b os none) y)
      | false ↦ λ l x y. one_birth id a b os l x y
    ]) h s t
  where
    last : (x y : Bool) → y ≡ false → (x || y) ≡ true → x ≡ true
    last true y n e = refl
    last false y n e = absurd (false≢true (sym n ∙ e))

module _ (c : Configuration) (log : List LogEvent) (legal : LegalLog c log) where
  abbrev us : List Update
  us = updates_of log

  pub few_born : (id birth : ℕ) → list_any (born_at id birth) (born us) ≡ true → length (filter (λ (o : Born). o.id == id) (born us)) ≤ 1
  few_born id birth t =
      let one = one_live c log legal id (ap (is_among id) (sym (born_live us)) ∙ any_among id birth (born us) t) in
      let p : Object → Bool = λ o. o.id == id in
      let rest : filter p (filter (λ o. not (p o)) (live us)) ≡ [] = filter_twice p (λ o. not (p o)) (live us) ∙ filter_none (λ o. not (p o) && p o) (live us) (all_any _ (λ o. never (p o)) (live us)) in
      let whole = same_length _ _ (same_filter p _ _ one.whole) in
      let head : length (filter p (one.object ∷ filter (λ o. not (p o)) (live us))) ≡ 1 = ap (λ b. length (cond b (one.object ∷ filter p (filter (λ o. not (p o)) (live us))) (filter p (filter (λ o. not (p o)) (live us))))) (eq-eqb one.object.id id one.named) ∙ ap (λ (xs : List Object). length (one.object ∷ xs)) rest in
      let moved : length (filter (λ (o : Born). o.id == id) (born us)) ≡ length (filter p (live us)) = sym (length_map (filter (λ (o : Born). o.id == id) (born us))) ∙ ap (λ (xs : List Object). length xs) (filter_map object p (born us)) ∙ ap (λ (xs : List Object). length (filter p xs)) (born_live us) in
      omega (arith, whole, head, moved)
    where
      never : (b : Bool) → (not b && b) ≡ false
      never true = refl
      never false = refl

      length_map : (os : List Born) → length (map object os) ≡ length os
      length_map [] = refl
      length_map (o ∷ os) = ap suc (length_map os)

  -- an identifier has one living object
  pub same_birth : (id a b : ℕ) → list_any (born_at id a) (born us) ≡ true → list_any (born_at id b) (born us) ≡ true → a ≡ b
  same_birth id a b s t = one_birth id a b (born us) (few_born id a s) s t
