-- Filters, and lists with the same elements.
use Rattle.std.proofs.Common.{◌≡◌, List, [], ◌∷◌, ◌++◌, Bool, true, false, cond, not, ◌&&◌, refl, sym, ap, ◌∙◌, arith}
use Rattle.std.specs.declared.cmp.Ordering.{Ordering}
use Rattle.std.specs.List.{sum_by, AllByRecursion, filter}
use Rattle.std.proofs.lemmas.List.Sums.{sum_by-cons, sum_by-append}
use Rattle.std.proofs.lemmas.List.Filters.{sum_by-filter_both}
use Rattle.std.specs.Ordering.{is_lt}
use Rattle.mi_base.specs.Sorting.{put, SameElements}
use Rattle.mi_base.proofs.SortingLemmas.{same_trans, same_filter, same_put}
use Rattle.mi_tree.proofs.ListLemmas.{all_weaker, filter_same, filter_twice}

module _ {X : Type 0} where
  pub same_is : (xs ys : List X) → xs ≡ ys → SameElements xs ys
  same_is xs ys e = record { sums = λ f. ap (sum_by f) e }

  pub same_append : {xs ys zs ws : List X} → SameElements xs ys → SameElements zs ws → SameElements (xs ++ zs) (ys ++ ws)
  same_append {xs = xs} {ys = ys} {zs = zs} {ws = ws} s t = record { sums = λ f. omega (arith, sum_by-append f xs zs, sum_by-append f ys ws, s.sums f, t.sums f) }

  -- those that pass and those that don't
  pub same_parts : (p : X → Bool) (xs : List X) → SameElements (filter p xs ++ filter (λ x. not (p x)) xs) xs
  same_parts p xs = record { sums = λ f. sum_by-append f (filter p xs) (filter (λ x. not (p x)) xs) ∙ sum_by-filter_both p (λ x. not (p x)) (λ _. refl) f xs }

  pub all_passes : (p : X → Bool) (xs : List X) → AllByRecursion (λ x. p x ≡ true) (filter p xs)
  all_passes p [] = tt
  all_passes p (x ∷ xs) =
      let P : Bool → Type 0 = λ b. p x ≡ b → AllByRecursion (λ y. p y ≡ true) (cond b (x ∷ filter p xs) (filter p xs)) in
      (elim (p x) as P [ true ↦ λ e. (e, all_passes p xs) | false ↦ λ e. all_passes p xs ]) refl

  -- one more element that fails a test, or passes it
  pub put_out : (cmp : X → X → Ordering) (p : X → Bool) (x : X) (xs : List X) → p x ≡ false → SameElements (filter p (put cmp x xs)) (filter p xs)
  put_out cmp p x xs e = same_trans (same_filter p _ _ (same_put cmp x xs)) (same_is _ _ (rw e refl))

  pub put_in : (cmp : X → X → Ordering) (p : X → Bool) (x : X) (xs : List X) → p x ≡ true → SameElements (filter p (put cmp x xs)) (x ∷ filter p xs)
  put_in cmp p x xs e = same_trans (same_filter p _ _ (same_put cmp x xs)) (same_is _ _ (rw e refl))

pub not_true : (b : Bool) → (b ≡ true → ⊥) → b ≡ false
not_true true h = absurd (h refl)
not_true false h = refl

pub and_no : (a b : Bool) → b ≡ false → (a && b) ≡ false
and_no true b e = e
and_no false b e = refl

pub no_and : (a b : Bool) → a ≡ false → (a && b) ≡ false
no_and a b e = rw e refl

module _ {X : Type 0} (cmp : X → X → Ordering) where
  -- a filter that drops x doesn't see it
  pub filter_put_out : (p : X → Bool) (x : X) → p x ≡ false → (xs : List X) → filter p (put cmp x xs) ≡ filter p xs
  filter_put_out p x px [] = rw px refl
  filter_put_out p x px (y ∷ ys) =
      let P : Bool → Type 0 = λ b. filter p (cond b (y ∷ put cmp x ys) (x ∷ y ∷ ys)) ≡ filter p (y ∷ ys) in
      elim (is_lt (cmp y x)) as P [
        | true ↦ ap (λ zs. cond (p y) (y ∷ zs) zs) (filter_put_out p x px ys)
        | false ↦ rw px refl
      ]

module _ {X : Type 0} where
  pub all_where : (P : X → Type 0) (p : X → Bool) (xs : List X) → AllByRecursion (λ x. p x ≡ true → P x) xs → AllByRecursion P (filter p xs)
  all_where P p [] h = tt
  all_where P p (x ∷ xs) h =
      let Q : Bool → Type 0 = λ b. p x ≡ b → AllByRecursion P (cond b (x ∷ filter p xs) (filter p xs)) in
      (elim (p x) as Q [ true ↦ λ e. (h.0 e, all_where P p xs h.1) | false ↦ λ e. all_where P p xs h.1 ]) refl

  pub all_last : (P : X → Type 0) (xs : List X) (x : X) → AllByRecursion P (xs ++ x ∷ []) → P x
  all_last P [] x h = h.0
  all_last P (y ∷ ys) x h = all_last P ys x h.1

  pub same_last : (xs : List X) (x : X) → SameElements (x ∷ xs) (xs ++ x ∷ [])
  same_last xs x = record { sums = λ f. omega (arith, sum_by-cons f x xs, sum_by-append f xs (x ∷ []), sum_by-cons f x []) }

  pub all_both : (P Q : X → Type 0) (xs : List X) → AllByRecursion P xs → AllByRecursion Q xs → AllByRecursion (λ x. P x × Q x) xs
  all_both P Q [] h i = tt
  all_both P Q (x ∷ xs) h i = ((h.0, i.0), all_both P Q xs h.1 i.1)

dropped : (o p : Bool) → (o ≡ true → p ≡ false) → (not o && p) ≡ p
dropped true p h = sym (h refl)
dropped false p h = refl

-- a filter doesn't miss what it wouldn't let through
pub filter_dropped : {X : Type 0} (p out : X → Bool) (xs : List X) → AllByRecursion (λ x. out x ≡ true → p x ≡ false) xs → filter p (filter (λ x. not (out x)) xs) ≡ filter p xs
filter_dropped p out xs h = filter_twice p (λ x. not (out x)) xs ∙ filter_same (λ x. not (out x) && p x) p xs (all_weaker _ _ (λ x i. dropped (out x) (p x) i) xs h)
