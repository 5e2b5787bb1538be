-- Numbers in lists.
use Rattle.std.proofs.Common.{Some, ◌≡◌, ◌≢◌, ℕ, ◌+◌, ◌<◌, ◌≤◌, List, [], ◌∷◌, length, Bool, true, false, cond, ◌||◌, nat_eq, refl, sym, ap, ◌∙◌, arith}
use Rattle.std.specs.List.{AllByRecursion}
use Rattle.std.proofs.lemmas.Bool.{eqb-true, eq-eqb, false≢true}
use Rattle.std.proofs.lemmas.Bool.Decides.{nat_tests}
use Rattle.mi_base.specs.Prefixes.{has}
use Rattle.mi_forest.specs.Forests.{head, occurrence, occurrences}
use Rattle.mi_forest.specs.Changes.{put_after}

pub other : (m n : ℕ) → m ≢ n → nat_eq m n ≡ false
other m n o = grind (arith, nat_tests)

pub one_same : (n : ℕ) → occurrence n n ≡ 1
one_same n = rw (eq-eqb n n refl) refl

pub one_other : (n m : ℕ) → n ≢ m → occurrence n m ≡ 0
one_other n m o = rw (other m n (λ e. o (sym e))) refl

pub all_from_has : (P : ℕ → Type 0) (ns : List ℕ) → ((m : ℕ) → has m ns ≡ true → P m) → AllByRecursion P ns
all_from_has P [] h = tt
all_from_has P (n ∷ ns) h = (h n (ap (λ b. b || has n ns) (eq-eqb n n refl)), all_from_has P ns (λ m t. h m (or_right (nat_eq n m) (has m ns) t)))
  where
    or_right : (a b : Bool) → b ≡ true → (a || b) ≡ true
    or_right true b e = refl
    or_right false b e = e

pub has_times : (n : ℕ) (ns : List ℕ) → has n ns ≡ true → 1 ≤ occurrences n ns
has_times n [] h = absurd (false≢true h)
has_times n (m ∷ ms) h =
    let Q : Bool → Type 0 = λ b. (b || has n ms) ≡ true → 1 ≤ cond b 1 0 + occurrences n ms in
    (elim (nat_eq m n) as Q [ true ↦ λ _. omega arith | false ↦ λ t. let r = has_times n ms t in omega arith ]) h

pub no_times : (n : ℕ) (ns : List ℕ) → has n ns ≡ false → occurrences n ns ≡ 0
no_times n [] h = refl
no_times n (m ∷ ms) h =
    let Q : Bool → Type 0 = λ b. (b || has n ms) ≡ false → cond b 1 0 + occurrences n ms ≡ 0 in
    (elim (nat_eq m n) as Q [ true ↦ λ e. absurd (false≢true (sym e)) | false ↦ λ t. let r = no_times n ms t in omega arith ]) h

pub first_in : (n : ℕ) (ns : List ℕ) → head ns ≡ Some n → has n ns ≡ true
first_in n [] e = absurd (cc)
first_in n (m ∷ ms) e = let is : m ≡ n = cc in ap (λ b. b || has n ms) (eq-eqb m n is)

-- two numbers make a list of two
pub has_two : (a b : ℕ) (ns : List ℕ) → has a ns ≡ true → has b ns ≡ true → a ≢ b → 1 < length ns
has_two a b [] h k o = absurd (false≢true h)
has_two a b (n ∷ []) h k o = absurd (o (sym (is a h) ∙ is b k))
  where
    is : (m : ℕ) → (nat_eq n m || false) ≡ true → n ≡ m
    is m t = eqb-true n m (or_no (nat_eq n m) t)
      where
        or_no : (c : Bool) → (c || false) ≡ true → c ≡ true
        or_no true e = refl
        or_no false e = e
has_two a b (n ∷ m ∷ ms) h k o = omega arith

module _ (n q : ℕ) where
  pub next_after : (ns : List ℕ) → head (put_after n q ns) ≡ head ns
  next_after [] = refl
  next_after (m ∷ ms) =
      let Q : Bool → Type 0 = λ b. head (cond b (m ∷ q ∷ ms) (m ∷ put_after n q ms)) ≡ head (m ∷ ms) in
      elim (nat_eq m n) as Q [ true ↦ refl | false ↦ refl ]

  pub has_after : (k : ℕ) (ns : List ℕ) → has k ns ≡ true → has k (put_after n q ns) ≡ true
  has_after k [] h = h
  has_after k (m ∷ ms) h =
      let P : Bool → Type 0 = λ b. has k (cond b (m ∷ q ∷ ms) (m ∷ put_after n q ms)) ≡ true in
      let Q : Bool → Type 0 = λ b. (b || has k ms) ≡ true → (b || (nat_eq q k || has k ms)) ≡ true in
      let R : Bool → Type 0 = λ b. (b || has k ms) ≡ true → (b || has k (put_after n q ms)) ≡ true in
      elim (nat_eq m n) as P [
        | true ↦ (elim (nat_eq m k) as Q [ true ↦ λ _. refl | false ↦ λ t. right (nat_eq q k) (has k ms) t ]) h
        | false ↦ (elim (nat_eq m k) as R [ true ↦ λ _. refl | false ↦ λ t. has_after k ms t ]) h
      ]
    where
      right : (a b : Bool) → b ≡ true → (a || b) ≡ true
      right true b e = refl
      right false b e = e

  pub has_new : (ns : List ℕ) → has n ns ≡ true → has q (put_after n q ns) ≡ true
  has_new [] h = absurd (false≢true h)
  has_new (m ∷ ms) h =
      let P : Bool → Type 0 = λ b. (b || has n ms) ≡ true → has q (cond b (m ∷ q ∷ ms) (m ∷ put_after n q ms)) ≡ true in
      (elim (nat_eq m n) as P [
        | true ↦ λ _. right (nat_eq m q) (nat_eq q q || has q ms) (ap (λ b. b || has q ms) (eq-eqb q q refl))
        | false ↦ λ t. right (nat_eq m q) (has q (put_after n q ms)) (has_new ms t)
      ]) h
    where
      right : (a b : Bool) → b ≡ true → (a || b) ≡ true
      right true b e = refl
      right false b e = e

  pub has_back : (k : ℕ) (ns : List ℕ) → k ≢ q → has k (put_after n q ns) ≡ true → has k ns ≡ true
  has_back k [] o h = h
  has_back k (m ∷ ms) o h =
      let P : Bool → Type 0 = λ b. has k (cond b (m ∷ q ∷ ms) (m ∷ put_after n q ms)) ≡ true → (nat_eq m k || has k ms) ≡ true in
      let R : Bool → Type 0 = λ b. (b || has k (put_after n q ms)) ≡ true → (b || has k ms) ≡ true in
      (elim (nat_eq m n) as P [
        | true ↦ λ t. sym (ap (λ c. nat_eq m k || (c || has k ms)) (other q k (λ e. o (sym e)))) ∙ t
        | false ↦ (elim (nat_eq m k) as R [ true ↦ λ _. refl | false ↦ λ t. has_back k ms o t ])
      ]) h

  pub times_after : (k : ℕ) (ns : List ℕ) → has n ns ≡ true → occurrences k (put_after n q ns) ≡ occurrence k q + occurrences k ns
  times_after k [] h = absurd (false≢true h)
  times_after k (m ∷ ms) h =
      let P : Bool → Type 0 = λ b. (b || has n ms) ≡ true → occurrences k (cond b (m ∷ q ∷ ms) (m ∷ put_after n q ms)) ≡ occurrence k q + (occurrence k m + occurrences k ms) in
      (elim (nat_eq m n) as P [
        | true ↦ λ _. omega arith
        | false ↦ λ t. let r = times_after k ms t in omega arith
      ]) h

  pub after_none : (ns : List ℕ) → has n ns ≡ false → put_after n q ns ≡ ns
  after_none [] h = refl
  after_none (m ∷ ms) h =
      let P : Bool → Type 0 = λ b. (b || has n ms) ≡ false → cond b (m ∷ q ∷ ms) (m ∷ put_after n q ms) ≡ m ∷ ms in
      (elim (nat_eq m n) as P [ true ↦ λ e. absurd (false≢true (sym e)) | false ↦ λ e. ap (λ js. m ∷ js) (after_none ms e) ]) h

  pub after_long : (ns : List ℕ) → length ns ≤ length (put_after n q ns)
  after_long [] = omega arith
  after_long (m ∷ ms) =
      let P : Bool → Type 0 = λ b. length (m ∷ ms) ≤ length (cond b (m ∷ q ∷ ms) (m ∷ put_after n q ms)) in
      elim (nat_eq m n) as P [ true ↦ omega arith | false ↦ let r = after_long ms in omega arith ]

  pub after_some : (ns : List ℕ) → 0 < length (put_after n q ns) → 0 < length ns
  after_some [] h = h
  after_some (m ∷ ms) h = omega arith
