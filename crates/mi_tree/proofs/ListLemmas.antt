-- Filters, maps and facts of each element.
use Rattle.std.proofs.Common.{◌≡◌, ℕ, zero, suc, List, [], ◌∷◌, ◌++◌, map, take, Some, Bool, true, false, cond, ◌&&◌, refl, sym, ap, ◌∙◌, subst}
use Rattle.std.specs.Prelude.{slice_get}
use Rattle.std.specs.declared.cmp.Ordering.{Ordering}
use Rattle.std.specs.List.{AllByRecursion, filter, flat_map, list_all}
use Rattle.std.specs.Ordering.{is_lt}
use Rattle.std.proofs.lemmas.Bool.{and_parts}
use Rattle.std.proofs.lemmas.List.{map-append}
use Rattle.std.proofs.lemmas.List.Elements.{filter-append}
use Rattle.std.proofs.lemmas.Option.{none-some, same_Some}
use Rattle.mi_base.specs.Sorting.{put}

module _ {X : Type 0} where
  -- tests that agree on each element
  pub filter_same : (p q : X → Bool) (xs : List X) → AllByRecursion (λ x. p x ≡ q x) xs → filter p xs ≡ filter q xs
  filter_same p q [] h = refl
  filter_same p q (x ∷ xs) h =
      let P : Bool → Type 0 = λ b. cond b (x ∷ filter p xs) (filter p xs) ≡ cond (q x) (x ∷ filter q xs) (filter q xs) in
      subst P (sym h.0) (ap (λ ys. cond (q x) (x ∷ ys) ys) (filter_same p q xs h.1))

  -- one test after another
  pub filter_twice : (p q : X → Bool) (xs : List X) → filter p (filter q xs) ≡ filter (λ x. q x && p x) xs
  filter_twice p q [] = refl
  filter_twice p q (x ∷ xs) =
      let P : Bool → Type 0 = λ b. filter p (cond b (x ∷ filter q xs) (filter q xs)) ≡ cond (b && p x) (x ∷ filter (λ y. q y && p y) xs) (filter (λ y. q y && p y) xs) in
      elim (q x) as P [ true ↦ ap (λ ys. cond (p x) (x ∷ ys) ys) (filter_twice p q xs) | false ↦ filter_twice p q xs ]

  -- a test that all fail keeps none
  pub filter_none : (p : X → Bool) (xs : List X) → AllByRecursion (λ x. p x ≡ false) xs → filter p xs ≡ []
  filter_none p [] h = refl
  filter_none p (x ∷ xs) h = rw (h.0, filter_none p xs h.1) refl

  -- a weaker fact of each element
  pub all_weaker : (P Q : X → Type 0) → ((x : X) → P x → Q x) → (xs : List X) → AllByRecursion P xs → AllByRecursion Q xs
  all_weaker P Q imp [] h = tt
  all_weaker P Q imp (x ∷ xs) h = (imp x h.0, all_weaker P Q imp xs h.1)

  -- a fact of anything
  pub all_any : (P : X → Type 0) → ((x : X) → P x) → (xs : List X) → AllByRecursion P xs
  all_any P imp [] = tt
  all_any P imp (x ∷ xs) = (imp x, all_any P imp xs)

  -- a fact of what a map gives
  pub all_map : {Y : Type 0} (f : Y → X) (P : X → Type 0) (ys : List Y) → AllByRecursion (λ y. P (f y)) ys → AllByRecursion P (map f ys)
  all_map f P [] h = tt
  all_map f P (y ∷ ys) h = (h.0, all_map f P ys h.1)

  -- a test of what a map gives
  pub filter_map : {Y : Type 0} (f : X → Y) (p : Y → Bool) (xs : List X) → map f (filter (λ x. p (f x)) xs) ≡ filter p (map f xs)
  filter_map f p [] = refl
  filter_map {Y = Y} f p (x ∷ xs) =
      let P : Bool → Type 0 = λ b. map f (cond b (x ∷ filter (λ y. p (f y)) xs) (filter (λ y. p (f y)) xs)) ≡ cond b (f x ∷ filter p (map f xs)) (filter p (map f xs)) in
      elim (p (f x)) as P [ true ↦ ap (λ ys. f x ∷ ys) (filter_map f p xs) | false ↦ filter_map f p xs ]

  -- one map after another
  pub map_twice : {Y Z : Type 0} (f : Y → Z) (h : X → Y) (xs : List X) → map f (map h xs) ≡ map (λ x. f (h x)) xs
  map_twice f h [] = refl
  map_twice f h (x ∷ xs) = ap (λ ys. f (h x) ∷ ys) (map_twice f h xs)

-- a fact of each element of two lists
pub all_joined : {X : Type 0} (P : X → Type 0) (xs ys : List X) → AllByRecursion P xs → AllByRecursion P ys → AllByRecursion P (xs ++ ys)
all_joined P [] ys a b = b
all_joined P (x ∷ xs) ys a b = (a.0, all_joined P xs ys a.1 b)

-- maps that agree on each element
pub map_same : {X Y : Type 0} (f h : X → Y) (xs : List X) → AllByRecursion (λ x. f x ≡ h x) xs → map f xs ≡ map h xs
map_same f h [] e = refl
map_same f h (x ∷ xs) e = let a = e.0 in let r = map_same f h xs e.1 in cc

-- a map of joined lists
pub map-flat : {X Y Z : Type 0} (f : Y → Z) (k : X → List Y) (xs : List X) → map f (flat_map k xs) ≡ flat_map (λ x. map f (k x)) xs
map-flat f k [] = refl
map-flat f k (x ∷ xs) = map-append f (k x) (flat_map k xs) ∙ ap (λ ys. map f (k x) ++ ys) (map-flat f k xs)

-- maps that agree on each element join alike
pub flat_same : {X Y : Type 0} (f k : X → List Y) (xs : List X) → AllByRecursion (λ x. f x ≡ k x) xs → flat_map f xs ≡ flat_map k xs
flat_same f k [] h = refl
flat_same f k (x ∷ xs) h = let a = h.0 in let r = flat_same f k xs h.1 in cc

-- a filter of what a map gives
pub filter_flat : {X Y : Type 0} (t : Y → Bool) (f : X → List Y) (xs : List X) → filter t (flat_map f xs) ≡ flat_map (λ x. filter t (f x)) xs
filter_flat t f [] = refl
filter_flat t f (x ∷ xs) = filter-append t (f x) (flat_map f xs) ∙ ap (λ ys. filter t (f x) ++ ys) (filter_flat t f xs)

-- a map that gives nothing for what a test drops
pub flat_kept : {X Y : Type 0} (t : X → Bool) (f : X → List Y) → ((x : X) → t x ≡ false → f x ≡ []) → (xs : List X) → flat_map f xs ≡ flat_map f (filter t xs)
flat_kept t f out [] = refl
flat_kept {X = X} t f out (x ∷ xs) =
    let P : Bool → Type 0 = λ b. t x ≡ b → f x ++ flat_map f xs ≡ flat_map f (cond b (x ∷ filter t xs) (filter t xs)) in
    (elim (t x) as P [
      | true ↦ λ e. ap (λ ys. f x ++ ys) (flat_kept t f out xs)
      | false ↦ λ e. rw (out x e) (flat_kept t f out xs)
    ]) refl

-- a test of each element, as a fact of each
pub all_from_test : {X : Type 0} (t : X → Bool) (xs : List X) → list_all t xs ≡ true → AllByRecursion (λ x. t x ≡ true) xs
all_from_test t [] h = tt
all_from_test t (x ∷ xs) h = let parts = and_parts (t x) (list_all t xs) h in (parts.0, all_from_test t xs parts.1)

-- a fact of each element, as a test
pub test_from_all : {X : Type 0} (t : X → Bool) (xs : List X) → AllByRecursion (λ x. t x ≡ true) xs → list_all t xs ≡ true
test_from_all t [] h = refl
test_from_all t (x ∷ xs) h = rw (h.0, test_from_all t xs h.1) refl

pub filter_all : {X : Type 0} (p : X → Bool) (xs : List X) → AllByRecursion (λ x. p x ≡ true) xs → filter p xs ≡ xs
filter_all p [] h = refl
filter_all p (x ∷ xs) h = rw (h.0, filter_all p xs h.1) refl

-- a fact of each element, of the one at a place
pub all_get : {X : Type 0} (P : X → Type 0) (xs : List X) (i : ℕ) (x : X) → AllByRecursion P xs → slice_get xs i ≡ Some x → P x
all_get P [] i x h e = absurd (none-some x e)
all_get P (y ∷ ys) zero x h e = subst P (same_Some y x e) h.0
all_get P (y ∷ ys) (suc i) x h e = all_get P ys i x h.1 e

pub all_take : {X : Type 0} (P : X → Type 0) (k : ℕ) (xs : List X) → AllByRecursion P xs → AllByRecursion P (take k xs)
all_take P zero xs h = tt
all_take P (suc k) [] h = tt
all_take P (suc k) (x ∷ xs) h = (h.0, all_take P k xs h.1)

pub all_put : {X : Type 0} (cmp : X → X → Ordering) (P : X → Type 0) (x : X) (xs : List X) → P x → AllByRecursion P xs → AllByRecursion P (put cmp x xs)
all_put cmp P x [] p h = (p, tt)
all_put cmp P x (y ∷ ys) p h =
    let Q : Bool → Type 0 = λ b. AllByRecursion P (cond b (y ∷ put cmp x ys) (x ∷ y ∷ ys)) in
    elim (is_lt (cmp y x)) as Q [ true ↦ (h.0, all_put cmp P x ys p h.1) | false ↦ (p, h) ]

pub all_from_map : {X Y : Type 0} (f : X → Y) (P : Y → Type 0) (xs : List X) → AllByRecursion P (map f xs) → AllByRecursion (λ x. P (f x)) xs
all_from_map f P [] h = tt
all_from_map f P (x ∷ xs) h = (h.0, all_from_map f P xs h.1)
