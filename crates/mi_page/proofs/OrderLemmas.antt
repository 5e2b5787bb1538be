-- Keys stay in order.
use Rattle.std.proofs.Common.{◌≡◌, ℕ, zero, suc, ◌<◌, ◌≤◌, List, [], ◌∷◌, map, length, get_or, Bool, true, false, cond, ◌||◌, nat_eq, nat_lt, Some, refl, ap, arith, Option}
use Rattle.std.specs.Prelude.{slice_get}
use Rattle.std.specs.List.{AllByRecursion, filter}
use Rattle.std.specs.List.Sorted.{IsNonDecreasingBy}
use Rattle.std.specs.Ordering.{nat_cmp, is_lt, on}
use Rattle.std.proofs.lemmas.Bool.{ltb-true}
use Rattle.std.proofs.lemmas.Bool.Decides.{nat_tests}
use Rattle.mi_base.specs.Prefixes.{has}
use Rattle.mi_base.specs.Sorting.{put}
use Rattle.mi_page.specs.Keys.{Ascending, AreOrdered, IsInside}

pub is_lt-nat_cmp : (a b : ℕ) → is_lt (nat_cmp a b) ≡ nat_lt a b
is_lt-nat_cmp a b = grind (arith, nat_tests)

-- what is above a key is above each lower one
pub all_above : (a b : ℕ) (keys : List ℕ) → a < b → AllByRecursion (λ k. b < k) keys → AllByRecursion (λ k. a < k) keys
all_above a b [] lt h = tt
all_above a b (k ∷ keys) lt h = ((let l = h.0 in omega arith), all_above a b keys lt h.1)

-- a key that is below all isn't there
pub absent : (key : ℕ) (keys : List ℕ) → AllByRecursion (λ k. key < k) keys → has key keys ≡ false
absent key [] h = refl
absent key (k ∷ keys) h = let other : nat_eq k key ≡ false = (let l = h.0 in grind (arith, nat_tests)) in rw other (absent key keys h.1)

-- a fact of each element at a place
pub all_at : {X : Type 0} (P : X → Type 0) (xs : List X) (i : ℕ) (d : X) → AllByRecursion P xs → i < length xs → P (get_or xs i d)
all_at P [] i d h lt = absurd (omega arith)
all_at P (x ∷ xs) zero d h lt = h.0
all_at P (x ∷ xs) (suc i) d h lt = all_at P xs i d h.1 (omega arith)

all_of_map : {X : Type 0} (f : X → ℕ) (P : ℕ → Type 0) (xs : List X) → AllByRecursion P (map f xs) → AllByRecursion (λ x. P (f x)) xs
all_of_map f P [] h = tt
all_of_map f P (x ∷ xs) h = (h.0, all_of_map f P xs h.1)

-- ascending keys never fall
pub rises : {X : Type 0} (f : X → ℕ) (xs : List X) → Ascending (map f xs) → IsNonDecreasingBy f xs
rises f [] h = λ i j d le lt. absurd (omega arith)
rises {X = X} f (x ∷ xs) h = go (rises f xs h.1)
  where
    go : IsNonDecreasingBy f xs → (i j : ℕ) (d : X) → i ≤ j → j < suc (length xs) → f (get_or (x ∷ xs) i d) ≤ f (get_or (x ∷ xs) j d)
    go r zero zero d le lt = omega arith
    go r zero (suc j) d le lt = let l = all_at (λ y. f x < f y) xs j d (all_of_map f (λ k. f x < k) xs h.0) (omega arith) in omega arith
    go r (suc i) zero d le lt = absurd (omega arith)
    go r (suc i) (suc j) d le lt = r i j d (omega arith) (omega arith)

put_all : (P : ℕ → Type 0) (key : ℕ) (keys : List ℕ) → P key → AllByRecursion P keys → AllByRecursion P (put nat_cmp key keys)
put_all P key [] p h = (p, tt)
put_all P key (k ∷ keys) p h =
    let Q : Bool → Type 0 = λ b. AllByRecursion P (cond b (k ∷ put nat_cmp key keys) (key ∷ k ∷ keys)) in
    elim (is_lt (nat_cmp k key)) as Q [ true ↦ (h.0, put_all P key keys p h.1) | false ↦ (p, h) ]

-- a key that isn't there yet, in its place
put_ascends : (key : ℕ) (keys : List ℕ) → Ascending keys → has key keys ≡ false → Ascending (put nat_cmp key keys)
put_ascends key [] a new = (tt, tt)
put_ascends key (k ∷ keys) a new =
    let Q : Bool → Type 0 = λ b. nat_lt k key ≡ b → (nat_eq k key || has key keys) ≡ false → Ascending (cond b (k ∷ put nat_cmp key keys) (key ∷ k ∷ keys)) in
    rw (is_lt-nat_cmp k key) ((elim (nat_lt k key) as Q [
      | true ↦ λ e n.
          let lt : k < key = ltb-true k key e in
          let other : nat_eq k key ≡ false = grind (arith, nat_tests) in
          (put_all (λ j. k < j) key keys lt a.0, put_ascends key keys a.1 (rw other at n))
      | false ↦ λ e n.
          let apart : nat_eq k key ≡ false = first_false (nat_eq k key) (has key keys) n in
          let lt : key < k = grind (arith, nat_tests) in
          ((lt, all_above key k keys lt a.0), a)
    ]) refl new)
  where
    first_false : (a b : Bool) → (a || b) ≡ false → a ≡ false
    first_false true b h = h
    first_false false b h = refl

put_length : (key : ℕ) (keys : List ℕ) → length (put nat_cmp key keys) ≡ suc (length keys)
put_length key [] = refl
put_length key (k ∷ keys) =
    let Q : Bool → Type 0 = λ b. length (cond b (k ∷ put nat_cmp key keys) (key ∷ k ∷ keys)) ≡ suc (suc (length keys)) in
    elim (is_lt (nat_cmp k key)) as Q [ true ↦ ap suc (put_length key keys) | false ↦ refl ]

pub put_ordered : (low : ℕ) (high : Option ℕ) (key : ℕ) (keys : List ℕ) → AreOrdered low high keys → length keys < 32 → IsInside low high key → has key keys ≡ false
    → AreOrdered low high (put nat_cmp key keys)
put_ordered low high key keys o few inside new = record {
  few = (let n = put_length key keys in omega arith);
  ascend = put_ascends key keys o.ascend new;
  inside = put_all (IsInside low high) key keys inside o.inside;
}

-- the keys of a list with one more element in its place
pub put_keys : {X : Type 0} (f : X → ℕ) (x : X) (xs : List X) → map f (put (on f nat_cmp) x xs) ≡ put nat_cmp (f x) (map f xs)
put_keys f x [] = refl
put_keys f x (y ∷ ys) =
    let Q : Bool → Type 0 = λ b. map f (cond b (y ∷ put (on f nat_cmp) x ys) (x ∷ y ∷ ys)) ≡ cond b (f y ∷ put nat_cmp (f x) (map f ys)) (f x ∷ f y ∷ map f ys) in
    elim (is_lt (nat_cmp (f y) (f x))) as Q [ true ↦ ap (λ ks. f y ∷ ks) (put_keys f x ys) | false ↦ refl ]

-- the first key stays first under each greater one
pub put_first : (low key : ℕ) (keys : List ℕ) → slice_get keys 0 ≡ Some low → low ≤ key → has key keys ≡ false → slice_get (put nat_cmp key keys) 0 ≡ Some low
put_first low key [] h le new = absurd (cc)
put_first low key (k ∷ keys) h le new =
    let e : k ≡ low = cc in
    let apart : nat_eq k key ≡ false = first_false (nat_eq k key) (has key keys) new in
    let lt : nat_lt k key ≡ true = grind (arith, nat_tests) in
    rw (is_lt-nat_cmp k key, lt) h
  where
    first_false : (a b : Bool) → (a || b) ≡ false → a ≡ false
    first_false true b h = h
    first_false false b h = refl

-- what a test keeps stays in order
pub filter_all : {X : Type 0} (f : X → ℕ) (P : ℕ → Type 0) (t : X → Bool) (xs : List X) → AllByRecursion P (map f xs) → AllByRecursion P (map f (filter t xs))
filter_all f P t [] h = tt
filter_all f P t (x ∷ xs) h =
    let Q : Bool → Type 0 = λ b. AllByRecursion P (map f (cond b (x ∷ filter t xs) (filter t xs))) in
    elim (t x) as Q [ true ↦ (h.0, filter_all f P t xs h.1) | false ↦ filter_all f P t xs h.1 ]

pub filter_ascends : {X : Type 0} (f : X → ℕ) (t : X → Bool) (xs : List X) → Ascending (map f xs) → Ascending (map f (filter t xs))
filter_ascends f t [] a = tt
filter_ascends f t (x ∷ xs) a =
    let Q : Bool → Type 0 = λ b. Ascending (map f (cond b (x ∷ filter t xs) (filter t xs))) in
    elim (t x) as Q [ true ↦ (filter_all f (λ k. f x < k) t xs a.0, filter_ascends f t xs a.1) | false ↦ filter_ascends f t xs a.1 ]

filter_few : {X : Type 0} (f : X → ℕ) (t : X → Bool) (xs : List X) → length (map f (filter t xs)) ≤ length (map f xs)
filter_few f t [] = omega arith
filter_few f t (x ∷ xs) =
    let r = filter_few f t xs in
    let Q : Bool → Type 0 = λ b. length (map f (cond b (x ∷ filter t xs) (filter t xs))) ≤ suc (length (map f xs)) in
    elim (t x) as Q [ true ↦ omega arith | false ↦ omega arith ]

pub filter_ordered : {X : Type 0} (f : X → ℕ) (t : X → Bool) (low : ℕ) (high : Option ℕ) (xs : List X) → AreOrdered low high (map f xs) → AreOrdered low high (map f (filter t xs))
filter_ordered f t low high xs o = record {
  few = (let n = filter_few f t xs in let m = o.few in omega arith);
  ascend = filter_ascends f t xs o.ascend;
  inside = filter_all f (IsInside low high) t xs o.inside;
}
