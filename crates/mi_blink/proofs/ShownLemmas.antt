-- A list in key order is cut at a key.
use Rattle.std.proofs.Common.{◌≡◌, ℕ, ◌≤◌, List, [], ◌∷◌, ◌++◌, Bool, true, false, cond, ◌&&◌, nat_le, nat_lt, refl, sym, ap, ◌∙◌, arith, inl, inr}
use Rattle.std.proofs.lemmas.Bool.{cases_lt, lt-ltb, le-ltb, le-leb, lt-leb, ltb-true, leb-true, and_parts}
use Rattle.std.proofs.lemmas.Bool.Decides.{nat_tests}
use Rattle.std.specs.List.{filter, AllByRecursion}
use Rattle.std.specs.Ordering.{is_lt, nat_cmp}
use Rattle.mi_base.specs.Sorting.{Ascends}
use Rattle.mi_key.specs.declared.ranges.Interval.{Interval}
use Rattle.mi_key.specs.Shown.{Shown, shown_cmp, within, below, from_on}

module _ {X : Type 0} where
  pub filter_implied : (p q : X → Bool) → ((x : X) → p x ≡ true → q x ≡ true) → (xs : List X) → filter p (filter q xs) ≡ filter p xs
  filter_implied p q imp [] = refl
  filter_implied p q imp (x ∷ xs) =
      let Q : Bool → Type 0 = λ b. q x ≡ b → filter p (cond b (x ∷ filter q xs) (filter q xs)) ≡ cond (p x) (x ∷ filter p xs) (filter p xs) in
      (elim (q x) as Q [
        | true ↦ λ e. ap (λ ys. cond (p x) (x ∷ ys) ys) (filter_implied p q imp xs)
        | false ↦ λ e.
            let P : Bool → Type 0 = λ b. p x ≡ b → filter p (filter q xs) ≡ cond b (x ∷ filter p xs) (filter p xs) in
            (elim (p x) as P [ true ↦ λ f. absurd (let t : true ≡ false = sym (imp x f) ∙ e in cc) | false ↦ λ f. filter_implied p q imp xs ]) refl
      ]) refl

  pub filter_swap : (p q : X → Bool) (xs : List X) → filter p (filter q xs) ≡ filter q (filter p xs)
  filter_swap p q [] = refl
  filter_swap p q (x ∷ xs) =
      let Q : Bool → Bool → Type 0 = λ a b. filter p (cond b (x ∷ filter q xs) (filter q xs)) ≡ filter q (cond a (x ∷ filter p xs) (filter p xs)) in
      let both : (a b : Bool) → p x ≡ a → q x ≡ b → Q a b =
      elim [
        | true ↦ elim [
          | true ↦ λ e f. rw (e, f) (ap (λ ys. x ∷ ys) (filter_swap p q xs))
          | false ↦ λ e f. rw f (filter_swap p q xs)
        ]
        | false ↦ elim [
          | true ↦ λ e f. rw e (filter_swap p q xs)
          | false ↦ λ e f. filter_swap p q xs
        ]
      ] in
      both (p x) (q x) refl refl

  filter_none : (p : X → Bool) (xs : List X) → AllByRecursion (λ x. p x ≡ false) xs → filter p xs ≡ []
  filter_none p [] h = refl
  filter_none p (x ∷ xs) h = rw (h.0, filter_none p xs h.1) refl

  filter_all : (p : X → Bool) (xs : List X) → AllByRecursion (λ x. p x ≡ true) xs → filter p xs ≡ xs
  filter_all p [] h = refl
  filter_all p (x ∷ xs) h = rw (h.0, filter_all p xs h.1) refl

  pub all_weaker : (P Q : X → Type 0) → ((x : X) → P x → Q x) → (xs : List X) → AllByRecursion P xs → AllByRecursion Q xs
  all_weaker P Q imp [] h = tt
  all_weaker P Q imp (x ∷ xs) h = (imp x h.0, all_weaker P Q imp xs h.1)

  pub all_filter : (P : X → Type 0) (p : X → Bool) (xs : List X) → AllByRecursion P xs → AllByRecursion P (filter p xs)
  all_filter P p [] h = tt
  all_filter P p (x ∷ xs) h =
      let Q : Bool → Type 0 = λ b. AllByRecursion P (cond b (x ∷ filter p xs) (filter p xs)) in
      elim (p x) as Q [ true ↦ (h.0, all_filter P p xs h.1) | false ↦ all_filter P p xs h.1 ]

not_below : (a b : ℕ) → is_lt (nat_cmp a b) ≡ false → b ≤ a
not_below a b h = grind (arith, nat_tests)

pub ascends_filter : (p : Shown → Bool) (xs : List Shown) → Ascends shown_cmp xs → Ascends shown_cmp (filter p xs)
ascends_filter p [] a = tt
ascends_filter p (x ∷ xs) a =
    let Q : Bool → Type 0 = λ b. Ascends shown_cmp (cond b (x ∷ filter p xs) (filter p xs)) in
    elim (p x) as Q [ true ↦ (all_filter _ p xs a.0, ascends_filter p xs a.1) | false ↦ ascends_filter p xs a.1 ]

-- after an object from low on, all are
after_low : (low : ℕ) (x : Shown) (xs : List Shown) → low ≤ x.key → AllByRecursion (λ y. is_lt (shown_cmp y x) ≡ false) xs → AllByRecursion (λ y. low ≤ y.key) xs
after_low low x xs le h = all_weaker (λ y. is_lt (shown_cmp y x) ≡ false) (λ y. low ≤ y.key) (λ y n. omega (arith, not_below y.key x.key n)) xs h

-- cut at a key
pub below-from_on : (low : ℕ) (xs : List Shown) → Ascends shown_cmp xs → below low xs ++ from_on low xs ≡ xs
below-from_on low [] a = refl
below-from_on low (x ∷ xs) a =
    elim (cases_lt x.key low) [
      | inl l ↦ rw (lt-ltb x.key low l, lt-leb low x.key l) (ap (λ ys. x ∷ ys) (below-from_on low xs a.1))
      | inr le ↦
          let rest = after_low low x xs le a.0 in
          rw (
            le-ltb x.key low le,
            le-leb low x.key le,
            filter_none (λ y. nat_lt y.key low) xs (all_weaker (λ y. low ≤ y.key) (λ y. nat_lt y.key low ≡ false) (λ y n. le-ltb y.key low n) xs rest),
            filter_all (λ y. nat_le low y.key) xs (all_weaker (λ y. low ≤ y.key) (λ y. nat_le low y.key ≡ true) (λ y n. le-leb low y.key n) xs rest),
          ) refl
    ]

pub below-more : (low high : ℕ) → low ≤ high → (xs : List Shown) → Ascends shown_cmp xs → below low xs ++ below high (from_on low xs) ≡ below high xs
below-more low high le xs a =
    ap (λ ys. ys ++ below high (from_on low xs)) (sym (filter_implied (λ o. nat_lt o.key low) (λ o. nat_lt o.key high) (λ o t. lt-ltb o.key high (omega (arith, ltb-true o.key low t))) xs))
    ∙ ap (λ ys. below low (below high xs) ++ ys) (filter_swap (λ o. nat_lt o.key high) (λ o. nat_le low o.key) xs)
    ∙ below-from_on low (below high xs) (ascends_filter (λ o. nat_lt o.key high) xs a)

pub below-within : (low : ℕ) (range : Interval) → low ≤ range.from → (xs : List Shown) → below low (within range xs) ≡ []
below-within low range le [] = refl
below-within low range le (x ∷ xs) =
    let P : Bool → Type 0 = λ b. (nat_le range.from x.key && nat_le x.key range.to) ≡ b → below low (cond b (x ∷ within range xs) (within range xs)) ≡ [] in
    (elim (nat_le range.from x.key && nat_le x.key range.to) as P [
      | true ↦ λ e. rw (le-ltb x.key low (omega (arith, leb-true range.from x.key (and_parts _ _ e).0))) (below-within low range le xs)
      | false ↦ λ e. below-within low range le xs
    ]) refl
