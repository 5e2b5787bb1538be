-- The place of a key in a list in key order, and what is done there.
use Rattle.std.proofs.Common.{◌≡◌, ◌≢◌, ℕ, suc, ◌+◌, ◌<◌, ◌≤◌, List, [], ◌∷◌, map, length, get_or, set, Bool, true, false, cond, not, ◌&&◌, ◌||◌, nat_eq, nat_lt, refl, sym, ap, ◌∙◌, subst, arith, one-add}
use Rattle.std.specs.List.{AllByRecursion, filter, insert, remove, prefix_len}
use Rattle.std.specs.List.Sorted.{IsPartitionPoint}
use Rattle.std.specs.Ordering.{nat_cmp, on}
use Rattle.std.proofs.lemmas.Bool.{ltb-true, eqb-true, false≢true, and_parts}
use Rattle.std.proofs.lemmas.Bool.Decides.{nat_tests}
use Rattle.std.proofs.lemmas.List.Sums.{prefix_len_is}
use Rattle.mi_base.specs.Prefixes.{has}
use Rattle.mi_base.specs.Sorting.{put}
use Rattle.mi_page.specs.Keys.{Ascending}
use Rattle.mi_page.proofs.OrderLemmas.{is_lt-nat_cmp, all_above, absent}

-- where a test turns from true to false is the length of the front that passes it
pub point_is : {X : Type 0} (p : X → Bool) (xs : List X) (i : ℕ) → i ≤ length xs → IsPartitionPoint (λ y. p y ≡ true) (λ y. p y ≡ false) xs i → i ≡ prefix_len p xs
point_is p [] i le h = omega arith
point_is p (x ∷ xs) i le h = sym (prefix_len_is p (x ∷ xs) i x le (λ k lt. h.0 k x (omega arith) lt) (λ lt. h.1 i x (omega arith) lt))

-- an insert there is an element in its place
pub insert_put : {X : Type 0} (f : X → ℕ) (x : X) (xs : List X) → insert xs (prefix_len (λ y. nat_lt (f y) (f x)) xs) x ≡ put (on f nat_cmp) x xs
insert_put f x [] = refl
insert_put {X = X} f x (y ∷ ys) =
    let n = prefix_len (λ z. nat_lt (f z) (f x)) ys in
    let Q : Bool → Type 0 = λ b. insert (y ∷ ys) (cond b (1 + n) 0) x ≡ cond b (y ∷ put (on f nat_cmp) x ys) (x ∷ y ∷ ys) in
    rw (is_lt-nat_cmp (f y) (f x)) (elim (nat_lt (f y) (f x)) as Q [
      | true ↦ rw (one-add n) (ap (λ zs. y ∷ zs) (insert_put f x ys))
      | false ↦ refl
    ])

module _ {X : Type 0} (f : X → ℕ) (key : ℕ) where
  -- how many have a lesser key
  abbrev place : List X → ℕ
  place xs = prefix_len (λ y. nat_lt (f y) key) xs

  -- the key is there exactly where the element at its place has it
  pub has_at : (xs : List X) (d : X) → Ascending (map f xs) → has key (map f xs) ≡ (nat_lt (place xs) (length xs) && nat_eq (f (get_or xs (place xs) d)) key)
  has_at [] d a = refl
  has_at (x ∷ xs) d a =
      let n = place xs in
      let Q : Bool → Type 0 = λ b. nat_lt (f x) key ≡ b
      → (nat_eq (f x) key || has key (map f xs)) ≡ (nat_lt (cond b (1 + n) 0) (suc (length xs)) && nat_eq (f (get_or (x ∷ xs) (cond b (1 + n) 0) d)) key) in
      (elim (nat_lt (f x) key) as Q [
        | true ↦ λ e.
            let other : nat_eq (f x) key ≡ false = grind (arith, nat_tests) in
            let shift : nat_lt (suc n) (suc (length xs)) ≡ nat_lt n (length xs) = grind (arith, nat_tests) in
            rw (one-add n, other, shift) (has_at xs d a.1)
        | false ↦ λ e.
            let first : nat_lt 0 (suc (length xs)) ≡ true = grind (arith, nat_tests) in
            let R : Bool → Type 0 = λ b. nat_eq (f x) key ≡ b → (b || has key (map f xs)) ≡ b in
            rw first ((elim (nat_eq (f x) key) as R [
              | true ↦ λ _. refl
              | false ↦ λ n. let lt : key < f x = grind (arith, nat_tests) in absent key (map f xs) (all_above key (f x) (map f xs) lt a.0)
            ]) refl)
      ]) refl

  -- elements with greater keys have another
  others_kept : (xs : List X) → AllByRecursion (λ k. key < k) (map f xs) → filter (λ y. not (nat_eq (f y) key)) xs ≡ xs
  others_kept [] h = refl
  others_kept (x ∷ xs) h =
      let other : nat_eq (f x) key ≡ false = (let l = h.0 in grind (arith, nat_tests)) in
      rw other (ap (λ ys. x ∷ ys) (others_kept xs h.1))

  others_same : (g : X → X) (xs : List X) → AllByRecursion (λ k. key < k) (map f xs) → map (λ y. cond (nat_eq (f y) key) (g y) y) xs ≡ xs
  others_same g [] h = refl
  others_same g (x ∷ xs) h =
      let other : nat_eq (f x) key ≡ false = (let l = h.0 in grind (arith, nat_tests)) in
      rw other (ap (λ ys. x ∷ ys) (others_same g xs h.1))

  -- the first element has the key, or all elements have others
  has_cases : (x : X) (xs : List X) → Ascending (map f (x ∷ xs)) → (nat_eq (f x) key || has key (map f xs)) ≡ true → nat_lt (f x) key ≡ false
      → (nat_eq (f x) key ≡ true) × AllByRecursion (λ k. key < k) (map f xs)
  has_cases x xs a h below =
      let R : Bool → Type 0 = λ b. nat_eq (f x) key ≡ b → (b || has key (map f xs)) ≡ true → nat_eq (f x) key ≡ true in
      let same : nat_eq (f x) key ≡ true = (elim (nat_eq (f x) key) as R [
        | true ↦ λ e _. e
        | false ↦ λ e n.
            let lt : key < f x = grind (arith, nat_tests) in
            absurd (false≢true (sym (absent key (map f xs) (all_above key (f x) (map f xs) lt a.0)) ∙ n))
      ]) refl h in
      let e : f x ≡ key = eqb-true (f x) key same in
      (same, subst (λ (n : ℕ). AllByRecursion (λ k. n < k) (map f xs)) e a.0)

  -- a removal there takes out the element of the key alone
  pub remove_at : (xs : List X) → Ascending (map f xs) → has key (map f xs) ≡ true → remove xs (place xs) ≡ filter (λ y. not (nat_eq (f y) key)) xs
  remove_at [] a h = refl
  remove_at (x ∷ xs) a h =
      let n = place xs in
      let Q : Bool → Type 0 = λ b. nat_lt (f x) key ≡ b → remove (x ∷ xs) (cond b (1 + n) 0) ≡ filter (λ y. not (nat_eq (f y) key)) (x ∷ xs) in
      (elim (nat_lt (f x) key) as Q [
        | true ↦ λ e.
            let other : nat_eq (f x) key ≡ false = grind (arith, nat_tests) in
            rw (one-add n, other) (ap (λ ys. x ∷ ys) (remove_at xs a.1 (rw other at h)))
        | false ↦ λ e. let c = has_cases x xs a h e in let same : nat_eq (f x) key ≡ true = c.0 in rw same (sym (others_kept xs c.1))
      ]) refl

  -- a write there changes the element of the key alone
  pub set_at : (g : X → X) (xs : List X) (d : X) → Ascending (map f xs) → has key (map f xs) ≡ true → set xs (place xs) (g (get_or xs (place xs) d)) ≡ map (λ y. cond (nat_eq (f y) key) (g y) y) xs
  set_at g [] d a h = refl
  set_at g (x ∷ xs) d a h =
      let n = place xs in
      let Q : Bool → Type 0 = λ b. nat_lt (f x) key ≡ b → set (x ∷ xs) (cond b (1 + n) 0) (g (get_or (x ∷ xs) (cond b (1 + n) 0) d)) ≡ map (λ y. cond (nat_eq (f y) key) (g y) y) (x ∷ xs) in
      (elim (nat_lt (f x) key) as Q [
        | true ↦ λ e.
            let other : nat_eq (f x) key ≡ false = grind (arith, nat_tests) in
            rw (one-add n, other) (ap (λ ys. x ∷ ys) (set_at g xs d a.1 (rw other at h)))
        | false ↦ λ e. let c = has_cases x xs a h e in let same : nat_eq (f x) key ≡ true = c.0 in rw same (ap (λ ys. g x ∷ ys) (sym (others_same g xs c.1)))
      ]) refl

  -- the element at the place has the key
  pub is_there : (xs : List X) (i : ℕ) (d : X) → Ascending (map f xs) → i ≡ place xs → i < length xs → f (get_or xs i d) ≡ key → has key (map f xs) ≡ true
  is_there xs i d a e lt same =
      let r : f (get_or xs (place xs) d) ≡ key = ap (λ n. f (get_or xs n d)) (sym e) ∙ same in
      let low : nat_lt (place xs) (length xs) ≡ true = grind (arith, nat_tests) in
      let eq : nat_eq (f (get_or xs (place xs) d)) key ≡ true = grind (arith, nat_tests) in
      has_at xs d a ∙ (rw (low, eq) refl)

  -- there is no element at the place, or one with another key
  pub past_all : (xs : List X) (i : ℕ) → Ascending (map f xs) → i ≡ place xs → length xs ≤ i → has key (map f xs) ≡ false
  past_all [] i a e le = refl
  past_all (x ∷ xs) i a e le =
      let high : nat_lt (place (x ∷ xs)) (length (x ∷ xs)) ≡ false = grind (arith, nat_tests) in
      has_at (x ∷ xs) x a ∙ (rw high refl)

  pub is_other : (xs : List X) (i : ℕ) (d : X) → Ascending (map f xs) → i ≡ place xs → f (get_or xs i d) ≢ key → has key (map f xs) ≡ false
  is_other xs i d a e other =
      let r : f (get_or xs (place xs) d) ≢ key = λ h. other (ap (λ n. f (get_or xs n d)) e ∙ h) in
      let eq : nat_eq (f (get_or xs (place xs) d)) key ≡ false = grind (arith, nat_tests) in
      let Q : Bool → Type 0 = λ b. (b && false) ≡ false in
      has_at xs d a ∙ (rw eq (elim (nat_lt (place xs) (length xs)) as Q [ true ↦ refl | false ↦ refl ]))

  pub place_within : (xs : List X) → Ascending (map f xs) → has key (map f xs) ≡ true → place xs < length xs
  place_within [] a h = absurd (false≢true h)
  place_within (x ∷ xs) a h =
      ltb-true (place (x ∷ xs)) (length (x ∷ xs)) (and_parts (nat_lt (place (x ∷ xs)) (length (x ∷ xs))) (nat_eq (f (get_or (x ∷ xs) (place (x ∷ xs)) x)) key) (sym (has_at (x ∷ xs) x a) ∙ h)).0

  -- whether the element at the place has the key is whether the key is there
  pub has_here : (xs : List X) (i : ℕ) (d : X) → Ascending (map f xs) → i ≡ place xs → i < length xs → nat_eq (f (get_or xs i d)) key ≡ has key (map f xs)
  has_here xs i d a e lt =
      let low : nat_lt (place xs) (length xs) ≡ true = grind (arith, nat_tests) in
      ap (λ n. nat_eq (f (get_or xs n d)) key) e ∙ sym (has_at xs d a ∙ ap (λ b. b && nat_eq (f (get_or xs (place xs) d)) key) low)
