-- How a cover changes as members come.
use Rattle.std.proofs.Common.{suc, ◌≡◌, ℕ, ◌+◌, ◌<◌, ◌≤◌, List, [], ◌∷◌, ◌++◌, length, map, get_or, min, refl, ap, sym, ◌∙◌, arith, true, eqb, Bool, not, cond, inl, inr}
use Rattle.std.specs.Prelude.{ℤ}
use Rattle.std.specs.List.{position_or_len}
use Rattle.std.proofs.lemmas.Bool.{cases_lt, eq-eqb, ne_eqb, eqb-true, false≢true}
use Rattle.std.proofs.lemmas.List.{get_or-map, length-map}
use Rattle.std.proofs.lemmas.List.Recursion.{max_bounds, max_least}
use Rattle.std.proofs.lemmas.List.Sums.{position_or_len_is, fails_before_first, passes_at_first}
use Rattle.mi_base.specs.declared.limits.TheConstants.{MAX_DISTANCE}
use Rattle.mi_base.specs.Space.{MetricSpace}
use Rattle.mi_choose.specs.Covering.{cover_of, from_nearest, greatest}
use Rattle.mi_choose.specs.Farthest.{farthest_place}

-- each number is at most the greatest
pub greatest_bounds : (ns : List ℕ) (i : ℕ) → i < length ns → get_or ns i 0 ≤ greatest ns
greatest_bounds ns i h = max_bounds greatest (λ n. n) refl (λ _ _. refl) ns i 0 h

greatest_least : (ns : List ℕ) (m : ℕ) → ((i : ℕ) → i < length ns → get_or ns i 0 ≤ m) → greatest ns ≤ m
greatest_least ns m h = max_least greatest (λ n. n) refl (λ _ _. refl) ns 0 m h

is_greatest : (ns : List ℕ) (n i : ℕ) → ((k : ℕ) → k < length ns → get_or ns k 0 ≤ n) → (0 < n → get_or ns i 0 ≡ n) → (0 < n → i < length ns) → n ≡ greatest ns
is_greatest ns n i most there within =
    let above : greatest ns ≤ n = greatest_least ns n most in
    let below : n ≤ greatest ns = elim (cases_lt 0 n) [
      | inl h ↦ omega (arith, there h, greatest_bounds ns i (within h))
      | inr h ↦ omega arith
    ] in
    omega arith

-- the first of the greatest is known by its place: none is greater, and those before it are less
pub first_greatest : (ns : List ℕ) (n i : ℕ) → ((k : ℕ) → k < length ns → get_or ns k 0 ≤ n) → ((k : ℕ) → k < i → get_or ns k 0 < n) → (0 < n → get_or ns i 0 ≡ n)
    → (n ≡ 0 → i ≡ 0) → (0 < n → i < length ns) → (n ≡ greatest ns) × (i ≡ position_or_len (λ d. eqb d (greatest ns)) ns)
first_greatest ns n i most before there none within =
    let is : n ≡ greatest ns = is_greatest ns n i most there within in
    let inside : i ≤ length ns = elim (cases_lt 0 n) [
      | inl h ↦ omega (arith, within h)
      | inr h ↦ omega (arith, none (omega arith))
    ] in
    let at_place : i < length ns → get_or ns i 0 ≡ greatest ns = λ h. elim (cases_lt 0 n) [
      | inl k ↦ there k ∙ is
      | inr k ↦ omega (arith, most i h)
    ] in (
      is,
      sym (position_or_len_is (λ d. eqb d (greatest ns)) ns i 0 inside
          (λ k h. ne_eqb (get_or ns k 0) (greatest ns) (λ e. omega (arith, before k h)))
          (λ h. eq-eqb (get_or ns i 0) (greatest ns) (at_place h))),
    )

greatest_there : (ns : List ℕ) → 0 < length ns → (i : ℕ) × (i < length ns) × (get_or ns i 0 ≡ greatest ns)
greatest_there [] h = absurd (omega arith)
greatest_there (n ∷ []) h = (0, omega arith, omega arith)
greatest_there (n ∷ k ∷ ns) h = elim (cases_lt n (greatest (k ∷ ns))) [
  | inl less ↦
      let rest = greatest_there (k ∷ ns) (omega arith) in
      (suc rest.0, omega (arith, rest.1), omega (arith, rest.2))
  | inr most ↦ (0, omega arith, omega arith)
]

-- where one passes, the first that passes is no later
first_no_later : {X : Type 0} (p : X → Bool) (xs : List X) (i : ℕ) (d : X) → p (get_or xs i d) ≡ true → position_or_len p xs ≤ i
first_no_later p xs i d passes = elim (cases_lt i (position_or_len p xs)) [
  | inl before ↦ absurd (false≢true (sym (fails_before_first p xs i d before) ∙ passes))
  | inr after ↦ after
]

-- the first that passes among images
pub first-map : {X Y : Type 0} (f : X → Y) (p : Y → Bool) (xs : List X) → position_or_len p (map f xs) ≡ position_or_len (λ x. p (f x)) xs
first-map f p [] = refl
first-map f p (x ∷ xs) = ap (λ n. cond (not (p (f x))) (1 + n) 0) (first-map f p xs)

-- the farthest object is one of the objects, and as far from its nearest member as the cover
pub farthest_is : (m : MetricSpace) (objects members : List (List ℤ)) → 0 < length objects
    → (farthest_place m objects members < length objects) × (from_nearest m members (get_or objects (farthest_place m objects members) []) ≡ cover_of m objects members)
farthest_is m objects members some =
    let f = from_nearest m members in
    let far = greatest_there (map f objects) (omega (arith, length-map objects f)) in
    let inside : far.0 < length objects = omega (arith, far.1, length-map objects f) in
    let p : List ℤ → Bool = λ v. eqb (f v) (cover_of m objects members) in
    let passes : p (get_or objects far.0 []) ≡ true = eq-eqb (f (get_or objects far.0 [])) (cover_of m objects members) (sym (get_or-map f objects far.0 [] 0 inside) ∙ far.2) in
    let found : position_or_len p objects < length objects = omega (arith, first_no_later p objects far.0 [] passes) in
    (found, eqb-true (f (get_or objects (position_or_len p objects) [])) (cover_of m objects members) (passes_at_first p objects [] found))

-- one member more may be nearer
pub from_nearest-append : (m : MetricSpace) (members : List (List ℤ)) (c v : List ℤ) → from_nearest m (members ++ c ∷ []) v ≡ min (m.d v c) (from_nearest m members v)
from_nearest-append m [] c v = refl
from_nearest-append m (b ∷ members) c v = omega (arith, from_nearest-append m members c v)

pub from_nearest_most : (m : MetricSpace) (members : List (List ℤ)) (v : List ℤ) → from_nearest m members v ≤ MAX_DISTANCE
from_nearest_most m [] v = omega arith
from_nearest_most m (b ∷ members) v = omega (arith, from_nearest_most m members v)

pub cover_most : (m : MetricSpace) (objects members : List (List ℤ)) → cover_of m objects members ≤ MAX_DISTANCE
cover_most m [] members = omega arith
cover_most m (v ∷ objects) members = omega (arith, from_nearest_most m members v, cover_most m objects members)

-- one member more leaves the objects no farther
pub cover_falls : (m : MetricSpace) (objects members : List (List ℤ)) (c : List ℤ) → cover_of m objects (members ++ c ∷ []) ≤ cover_of m objects members
cover_falls m [] members c = omega arith
cover_falls m (v ∷ objects) members c = omega (arith, from_nearest-append m members c v, cover_falls m objects members c)
