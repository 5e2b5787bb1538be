-- How many objects are live, and that each identifier is live once.
use Rattle.std.proofs.Common.{◌≡◌, ℕ, ◌+◌, ◌≤◌, List, [], ◌∷◌, length, Bool, true, false, cond, not, ◌||◌, refl, sym, ap, subst, arith, ℤ}
use Rattle.std.specs.Prelude.{◌==◌}
use Rattle.std.specs.List.{AllByRecursion, filter, fold, sum_by}
use Rattle.std.proofs.lemmas.Bool.{false≢true, eqb-true}
use Rattle.std.proofs.lemmas.List.Sums.{sum_by-cons}
use Rattle.mi_base.specs.declared.records.Update.{Update}
use Rattle.mi_base.specs.declared.records.Update.TheVariants.{Insert, Delete}
use Rattle.mi_base.specs.Sorting.{SameElements}
use Rattle.mi_base.specs.History.{Object, live, live_after, is_among, Once, TheOne}
use Rattle.mi_base.proofs.SortingLemmas.{same_cons, same_trans, filter_keeps}

-- a filter keeps no more than there is
pub length_filter : {X : Type 0} (p : X → Bool) (xs : List X) → length (filter p xs) ≤ length xs
length_filter p [] = omega arith
length_filter p (x ∷ xs) =
    let Q : Bool → Type 0 = λ b. length (cond b (x ∷ filter p xs) (filter p xs)) ≤ length (x ∷ xs) in
    elim (p x) as Q [ true ↦ omega (arith, length_filter p xs) | false ↦ omega (arith, length_filter p xs) ]

few_after : (os : List Object) (us : List Update) → length (fold live_after os us) ≤ length os + length us
few_after os [] = omega arith
few_after os (Insert id v ∷ us) = omega (arith, few_after (live_after os (Insert id v)) us)
few_after os (Delete id ∷ us) = omega (arith, few_after (live_after os (Delete id)) us, length_filter (λ o. not (o.id == id)) os)

-- there are no more live objects than updates
pub few_live : (us : List Update) → length (live us) ≤ length us
few_live us = omega (arith, few_after [] us)

-- an identifier that isn't among the objects is no object's
other_named : (id : ℕ) (os : List Object) → is_among id os ≡ false → AllByRecursion (λ x. (x.id == id) ≡ false) os
other_named id [] h = tt
other_named id (o ∷ os) h =
    let P : Bool → Type 0 = λ b. (o.id == id) ≡ b → (b || is_among id os) ≡ false → AllByRecursion (λ x. (x.id == id) ≡ false) (o ∷ os) in
    (elim (o.id == id) as P [ true ↦ λ e k. absurd (false≢true (sym k)) | false ↦ λ e k. (e, other_named id os k) ]) refl h

once_filtered : (p : Object → Bool) (os : List Object) → Once os → Once (filter p os)
once_filtered p [] h = tt
once_filtered p (o ∷ os) h =
    let P : Bool → Type 0 = λ b. Once (cond b (o ∷ filter p os) (filter p os)) in
    elim (p o) as P [ true ↦ (filter_keeps _ p os h.0, once_filtered p os h.1) | false ↦ once_filtered p os h.1 ]

-- an insert of an identifier that isn't live keeps each once
pub once_inserted : (os : List Object) (id : ℕ) (v : List ℤ) → Once os → is_among id os ≡ false → Once (live_after os (Insert id v))
once_inserted os id v once absent = (other_named id os absent, once)

-- so does a delete
pub once_deleted : (os : List Object) (id : ℕ) → Once os → Once (live_after os (Delete id))
once_deleted os id once = once_filtered (λ o. not (o.id == id)) os once

-- a filter that drops no object
kept_whole : (id : ℕ) (os : List Object) → AllByRecursion (λ x. (x.id == id) ≡ false) os → filter (λ x. not (x.id == id)) os ≡ os
kept_whole id [] h = refl
kept_whole id (o ∷ os) h = rw h.0 (ap (λ xs. o ∷ xs) (kept_whole id os h.1))

same_swap : {X : Type 0} (x y : X) (xs : List X) → SameElements (x ∷ y ∷ xs) (y ∷ x ∷ xs)
same_swap x y xs = record { sums = λ f. omega (arith, sum_by-cons f x (y ∷ xs), sum_by-cons f y xs, sum_by-cons f y (x ∷ xs), sum_by-cons f x xs) }

same_is : {X : Type 0} (xs ys : List X) → xs ≡ ys → SameElements xs ys
same_is xs ys e = record { sums = λ f. ap (sum_by f) e }

-- the one object of an identifier that is among them
pub the_one : (id : ℕ) (os : List Object) → Once os → is_among id os ≡ true → TheOne id os
the_one id [] once h = absurd (false≢true h)
the_one id (o ∷ os) once h =
    let P : Bool → Type 0 = λ b. (o.id == id) ≡ b → (b || is_among id os) ≡ true → TheOne id (o ∷ os) in
    (elim (o.id == id) as P [
      | true ↦ λ e k.
          let same : o.id ≡ id = eqb-true o.id id e in
          let rest : filter (λ (x : Object). not (x.id == id)) os ≡ os = kept_whole id os (subst (λ (n : ℕ). AllByRecursion (λ (x : Object). (x.id == n) ≡ false) os) same once.0) in
          record { object = o; named = same; whole = same_is _ _ (sym (rw (e, rest) refl)) }
      | false ↦ λ e k.
          let found = the_one id os once.1 k in
          let whole : SameElements (o ∷ os) (found.object ∷ o ∷ filter (λ (x : Object). not (x.id == id)) os) =
          same_trans (same_cons o _ _ found.whole) (same_swap o found.object _) in
          record { object = found.object; named = found.named; whole = rw e whole }
    ]) refl h
