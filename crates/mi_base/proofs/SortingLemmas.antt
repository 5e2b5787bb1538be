-- What a sort leaves is the sorted list, and that depends on the elements alone.
use Rattle.std.proofs.Common.{◌≡◌, ℕ, suc, ◌+◌, ◌<◌, ◌≤◌, List, [], ◌∷◌, map, length, get_or, Bool, true, false, cond, refl, sym, ap, ◌∙◌, arith}
use Rattle.std.specs.declared.cmp.Ordering.{Ordering}
use Rattle.std.specs.declared.cmp.Ordering.TheVariants.{Less, Equal, Greater}
use Rattle.std.specs.List.{sum_by, AllByRecursion, filter}
use Rattle.std.specs.List.Sorted.{IsPermutation, IsSorted}
use Rattle.std.specs.Ordering.{is_gt, is_lt, is_eq, ordering_reverse}
use Rattle.std.specs.Cmp.{IsTotalOrder}
use Rattle.std.proofs.lemmas.List.Sums.{sum_by-cons}
use Rattle.std.proofs.lemmas.List.Sorted.{sum_by-IsPermutation, sorted_far, ranks_by}
use Rattle.std.proofs.lemmas.List.Elements.{recursion_from_All}
use Rattle.std.proofs.lemmas.Map.Lookups.{CmpEqualImpliesEq}
use Rattle.mi_base.specs.Sorting.{put, sorted, Ascends, SameElements}

pub same_sym : {X : Type 0} {xs ys : List X} → SameElements xs ys → SameElements ys xs
same_sym s = record { sums = λ f. sym (s.sums f) }

pub same_trans : {X : Type 0} {xs ys zs : List X} → SameElements xs ys → SameElements ys zs → SameElements xs zs
same_trans s t = record { sums = λ f. s.sums f ∙ t.sums f }

pub same_permutation : {X : Type 0} (xs ys : List X) → IsPermutation xs ys → SameElements xs ys
same_permutation xs ys p = record { sums = λ f. sym (sum_by-IsPermutation f xs ys p) }

put_sum : {X : Type 0} (cmp : X → X → Ordering) (f : X → ℕ) (x : X) (xs : List X) → sum_by f (put cmp x xs) ≡ f x + sum_by f xs
put_sum cmp f x [] = sum_by-cons f x []
put_sum cmp f x (y ∷ ys) =
    let P : Bool → Type 0 = λ b. sum_by f (cond b (y ∷ put cmp x ys) (x ∷ y ∷ ys)) ≡ f x + sum_by f (y ∷ ys) in
    elim (is_lt (cmp y x)) as P [
      | true ↦ omega (arith, sum_by-cons f y (put cmp x ys), sum_by-cons f y ys, put_sum cmp f x ys)
      | false ↦ sum_by-cons f x (y ∷ ys)
    ]

pub same_put : {X : Type 0} (cmp : X → X → Ordering) (x : X) (xs : List X) → SameElements (put cmp x xs) (x ∷ xs)
same_put cmp x xs = record { sums = λ f. put_sum cmp f x xs ∙ sym (sum_by-cons f x xs) }

pub same_cons : {X : Type 0} (x : X) (xs ys : List X) → SameElements xs ys → SameElements (x ∷ xs) (x ∷ ys)
same_cons x xs ys s = record { sums = λ f. omega (arith, sum_by-cons f x xs, sum_by-cons f x ys, s.sums f) }

pub same_sorted : {X : Type 0} (cmp : X → X → Ordering) (xs : List X) → SameElements (sorted cmp xs) xs
same_sorted cmp [] = record { sums = λ f. refl }
same_sorted cmp (x ∷ xs) = same_trans (same_put cmp x (sorted cmp xs)) (same_cons x (sorted cmp xs) xs (same_sorted cmp xs))

map_sum : {X Y : Type 0} (g : X → Y) (f : Y → ℕ) (xs : List X) → sum_by f (map g xs) ≡ sum_by (λ x. f (g x)) xs
map_sum g f [] = refl
map_sum g f (x ∷ xs) = sum_by-cons f (g x) (map g xs) ∙ ap (λ n. f (g x) + n) (map_sum g f xs) ∙ sym (sum_by-cons (λ y. f (g y)) x xs)

pub same_map : {X Y : Type 0} (g : X → Y) (xs ys : List X) → SameElements xs ys → SameElements (map g xs) (map g ys)
same_map g xs ys s = record { sums = λ f. map_sum g f xs ∙ s.sums (λ x. f (g x)) ∙ sym (map_sum g f ys) }

filter_sum : {X : Type 0} (p : X → Bool) (f : X → ℕ) (xs : List X) → sum_by f (filter p xs) ≡ sum_by (λ x. cond (p x) (f x) 0) xs
filter_sum p f [] = refl
filter_sum {X = X} p f (x ∷ xs) =
    let g = λ (y : X). cond (p y) (f y) 0 in
    let P : Bool → Type 0 = λ b. sum_by f (cond b (x ∷ filter p xs) (filter p xs)) ≡ cond b (f x) 0 + sum_by g xs in
    (elim (p x) as P [
      | true ↦ sum_by-cons f x (filter p xs) ∙ ap (λ n. f x + n) (filter_sum p f xs)
      | false ↦ omega (arith, filter_sum p f xs)
    ]) ∙ sym (sum_by-cons g x xs)

pub same_filter : {X : Type 0} (p : X → Bool) (xs ys : List X) → SameElements xs ys → SameElements (filter p xs) (filter p ys)
same_filter p xs ys s = record { sums = λ f. filter_sum p f xs ∙ s.sums (λ x. cond (p x) (f x) 0) ∙ sym (filter_sum p f ys) }

-- sums that are 0
none_sum : {X : Type 0} (p : X → Bool) (xs : List X) → AllByRecursion (λ x. p x ≡ false) xs → sum_by (λ x. cond (p x) 1 0) xs ≡ 0
none_sum p [] h = refl
none_sum p (x ∷ xs) h = sum_by-cons (λ y. cond (p y) 1 0) x xs ∙ (rw (h.0, none_sum p xs h.1) refl)

pub filter_keeps : {X : Type 0} (P : X → Type 0) (p : X → Bool) (xs : List X) → AllByRecursion P xs → AllByRecursion P (filter p xs)
filter_keeps P p [] h = tt
filter_keeps P p (x ∷ xs) h =
    let Q : Bool → Type 0 = λ b. AllByRecursion P (cond b (x ∷ filter p xs) (filter p xs)) in
    elim (p x) as Q [ true ↦ (h.0, filter_keeps P p xs h.1) | false ↦ filter_keeps P p xs h.1 ]

module _ {X : Type 0} (cmp : X → X → Ordering) (order : IsTotalOrder cmp) where
  equal_self : (x : X) → cmp x x ≡ Equal
  equal_self x =
      let P : Ordering → Type 0 = λ o. o ≡ ordering_reverse o → o ≡ Equal in
      (elim (cmp x x) as P [ Less ↦ λ e. cc | Equal ↦ λ e. refl | Greater ↦ λ e. cc ]) (order.antisymm x x)

  -- y is not below x
  reversed : (x y : X) → is_lt (cmp y x) ≡ is_gt (cmp x y)
  reversed x y =
      let P : Ordering → Type 0 = λ o. is_lt o ≡ is_gt (ordering_reverse o) in
      (elim (cmp y x) as P [ Less ↦ refl | Equal ↦ refl | Greater ↦ refl ]) ∙ ap is_gt (sym (order.antisymm x y))

  less_le : (x y z : X) → cmp x y ≡ Less → is_gt (cmp y z) ≡ false → cmp x z ≡ Less
  less_le x y z l n =
      let P : Ordering → Type 0 = λ o. cmp y z ≡ o → is_gt o ≡ false → cmp x z ≡ Less in
      (elim (cmp y z) as P [
        | Less ↦ λ e _. order.trans x y z l e
        | Equal ↦ λ e _. order.antisymm x z ∙ ap ordering_reverse (sym (order.congr y z x e)) ∙ sym (order.antisymm x y) ∙ l
        | Greater ↦ λ e h. cc
      ]) refl n

  below_all : (x y : X) (ys : List X) → cmp x y ≡ Less → AllByRecursion (λ z. is_lt (cmp z y) ≡ false) ys → AllByRecursion (λ z. is_eq (cmp x z) ≡ false) ys
  below_all x y [] l h = tt
  below_all x y (z ∷ zs) l h = (ap is_eq (less_le x y z l (sym (reversed y z) ∙ h.0)), below_all x y zs l h.1)

  absent : (x y : X) (ys : List X) → cmp x y ≡ Less → Ascends cmp (y ∷ ys) → sum_by (λ z. cond (is_eq (cmp x z)) 1 0) (y ∷ ys) ≡ 0
  absent x y ys l h = none_sum (λ z. is_eq (cmp x z)) (y ∷ ys) (ap is_eq l, below_all x y ys l h.0)

  present : (x : X) (xs : List X) → 1 ≤ sum_by (λ z. cond (is_eq (cmp x z)) 1 0) (x ∷ xs)
  present x xs = rw (sum_by-cons (λ z. cond (is_eq (cmp x z)) 1 0) x xs, equal_self x) (omega arith)

  heads : (x y : X) (xs ys : List X) → Ascends cmp (x ∷ xs) → Ascends cmp (y ∷ ys) → SameElements (x ∷ xs) (y ∷ ys) → cmp x y ≡ Equal
  heads x y xs ys a b s =
      let P : Ordering → Type 0 = λ o. cmp x y ≡ o → o ≡ Equal in
      (elim (cmp x y) as P [
        | Less ↦ λ e. absurd (omega (arith, absent x y ys e b, present x xs, s.sums (λ z. cond (is_eq (cmp x z)) 1 0)))
        | Equal ↦ λ e. refl
        | Greater ↦ λ e. absurd (omega (arith, absent y x xs (order.antisymm y x ∙ ap ordering_reverse e) a, present y ys, s.sums (λ z. cond (is_eq (cmp y z)) 1 0)))
      ]) refl

  -- one order of the same elements
  pub ascending_unique : CmpEqualImpliesEq cmp → (xs ys : List X) → Ascends cmp xs → Ascends cmp ys → SameElements xs ys → xs ≡ ys
  ascending_unique exact [] [] a b s = refl
  ascending_unique exact [] (y ∷ ys) a b s = absurd (omega (arith, s.sums (λ _. 1), sum_by-cons (λ _. 1) y ys))
  ascending_unique exact (x ∷ xs) [] a b s = absurd (omega (arith, s.sums (λ _. 1), sum_by-cons (λ _. 1) x xs))
  ascending_unique exact (x ∷ xs) (y ∷ ys) a b s =
      let e : x ≡ y = exact x y (heads x y xs ys a b s) in
      let t : SameElements xs ys = record { sums = λ f. omega (arith, s.sums f, sum_by-cons f x xs, sum_by-cons f y ys, ap f e) } in
      let r : xs ≡ ys = ascending_unique exact xs ys a.1 b.1 t in
      cc

  put_above : (x y : X) (ys : List X) → is_lt (cmp y x) ≡ false → AllByRecursion (λ z. is_lt (cmp z x) ≡ false) ys → AllByRecursion (λ z. is_lt (cmp z x) ≡ false) (put cmp y ys)
  put_above x y [] l h = (l, tt)
  put_above x y (z ∷ zs) l h =
      let P : Bool → Type 0 = λ b. AllByRecursion (λ w. is_lt (cmp w x) ≡ false) (cond b (z ∷ put cmp y zs) (y ∷ z ∷ zs)) in
      elim (is_lt (cmp z y)) as P [ true ↦ (h.0, put_above x y zs l h.1) | false ↦ (l, h) ]

  not_below_all : (x y : X) (ys : List X) → is_lt (cmp y x) ≡ false → AllByRecursion (λ z. is_lt (cmp z y) ≡ false) ys → AllByRecursion (λ z. is_lt (cmp z x) ≡ false) ys
  not_below_all x y [] l h = tt
  not_below_all x y (z ∷ zs) l h = ((ranks_by order (λ w. w)).chain z y x h.0 l, not_below_all x y zs l h.1)

  pub put_ascends : (x : X) (xs : List X) → Ascends cmp xs → Ascends cmp (put cmp x xs)
  put_ascends x [] a = (tt, tt)
  put_ascends x (y ∷ ys) a =
      let P : Bool → Type 0 = λ b. is_lt (cmp y x) ≡ b → Ascends cmp (cond b (y ∷ put cmp x ys) (x ∷ y ∷ ys)) in
      (elim (is_lt (cmp y x)) as P [
        | true ↦ λ e. (put_above y x ys ((ranks_by order (λ w. w)).one_way y x e) a.0, put_ascends x ys a.1)
        | false ↦ λ e. ((e, not_below_all x y ys e a.0), a)
      ]) refl

  pub sorted_ascends : (xs : List X) → Ascends cmp (sorted cmp xs)
  sorted_ascends [] = tt
  sorted_ascends (x ∷ xs) = put_ascends x (sorted cmp xs) (sorted_ascends xs)

  far_ascends : (xs : List X) → ((i j : ℕ) (d : X) → i ≤ j → j < length xs → is_lt (cmp (get_or xs j d) (get_or xs i d)) ≡ false) → Ascends cmp xs
  far_ascends [] far = tt
  far_ascends (x ∷ xs) far = (
    recursion_from_All (λ y. is_lt (cmp y x) ≡ false) xs (λ k d l. far 0 (suc k) d (omega arith) (omega arith)),
    far_ascends xs (λ i j d l m. far (suc i) (suc j) d (omega arith) (omega arith)),
  )

  pub ascends-from_sort : (xs : List X) → IsSorted cmp xs → Ascends cmp xs
  ascends-from_sort xs s = far_ascends xs (sorted_far (λ x y. is_lt (cmp x y)) (ranks_by order (λ w. w)) xs s)

  -- a sort's result is the sorted list of anything with the same elements
  pub sort_is : CmpEqualImpliesEq cmp → (xs ys : List X) → IsSorted cmp ys → SameElements xs ys → ys ≡ sorted cmp xs
  sort_is exact xs ys s same = ascending_unique exact ys (sorted cmp xs) (ascends-from_sort ys s) (sorted_ascends xs) (same_trans (same_sym same) (same_sym (same_sorted cmp xs)))

  pub sorted_of_same : CmpEqualImpliesEq cmp → (xs ys : List X) → SameElements xs ys → sorted cmp xs ≡ sorted cmp ys
  sorted_of_same exact xs ys same = ascending_unique exact (sorted cmp xs) (sorted cmp ys) (sorted_ascends xs) (sorted_ascends ys) (same_trans (same_sorted cmp xs) (same_trans same (same_sym (same_sorted cmp ys))))

  put_front : (x : X) (ys : List X) → AllByRecursion (λ y. is_lt (cmp y x) ≡ false) ys → put cmp x ys ≡ x ∷ ys
  put_front x [] h = refl
  put_front x (y ∷ ys) h = rw h.0 refl

  -- a filter that keeps x keeps its place
  pub filter_put_in : (p : X → Bool) (x : X) → p x ≡ true → (xs : List X) → Ascends cmp xs → filter p (put cmp x xs) ≡ put cmp x (filter p xs)
  filter_put_in p x px [] a = rw px refl
  filter_put_in p x px (y ∷ ys) a =
      let P : Bool → Type 0 = λ b. is_lt (cmp y x) ≡ b → filter p (cond b (y ∷ put cmp x ys) (x ∷ y ∷ ys)) ≡ put cmp x (filter p (y ∷ ys)) in
      (elim (is_lt (cmp y x)) as P [
        | true ↦ λ e.
            let Q : Bool → Type 0 = λ b. cond b (y ∷ filter p (put cmp x ys)) (filter p (put cmp x ys)) ≡ put cmp x (cond b (y ∷ filter p ys) (filter p ys)) in
            elim (p y) as Q [ true ↦ rw e (ap (λ zs. y ∷ zs) (filter_put_in p x px ys a.1)) | false ↦ filter_put_in p x px ys a.1 ]
        | false ↦ λ e. rw px (sym (put_front x (filter p (y ∷ ys)) (filter_keeps (λ z. is_lt (cmp z x) ≡ false) p (y ∷ ys) (e, not_below_all x y ys e a.0))))
      ]) refl

  -- a filter that drops x doesn't see it
  pub filter_put_out : (p : X → Bool) (x : X) → p x ≡ false → (xs : List X) → filter p (put cmp x xs) ≡ filter p xs
  filter_put_out p x px [] = rw px refl
  filter_put_out p x px (y ∷ ys) =
      let P : Bool → Type 0 = λ b. filter p (cond b (y ∷ put cmp x ys) (x ∷ y ∷ ys)) ≡ filter p (y ∷ ys) in
      elim (is_lt (cmp y x)) as P [
        | true ↦ ap (λ zs. cond (p y) (y ∷ zs) zs) (filter_put_out p x px ys)
        | false ↦ rw px refl
      ]

  pub ascends_filter_any : (p : X → Bool) (xs : List X) → Ascends cmp xs → Ascends cmp (filter p xs)
  ascends_filter_any p [] a = tt
  ascends_filter_any p (x ∷ xs) a =
      let Q : Bool → Type 0 = λ b. Ascends cmp (cond b (x ∷ filter p xs) (filter p xs)) in
      elim (p x) as Q [ true ↦ (filter_keeps _ p xs a.0, ascends_filter_any p xs a.1) | false ↦ ascends_filter_any p xs a.1 ]

ones : {X : Type 0} (xs : List X) → sum_by (λ _. 1) xs ≡ length xs
ones [] = refl
ones (x ∷ xs) = sum_by-cons (λ _. 1) x xs ∙ omega (arith, ones xs)

pub same_length : {X : Type 0} (xs ys : List X) → SameElements xs ys → length xs ≡ length ys
same_length xs ys s = sym (ones xs) ∙ s.sums (λ _. 1) ∙ ones ys
