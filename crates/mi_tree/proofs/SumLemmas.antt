-- Sums over lists, and how often a test is passed.
use Rattle.std.proofs.Common.{◌≡◌, ℕ, ◌+◌, ◌<◌, List, [], ◌∷◌, ◌++◌, length, take, get_or, Some, Bool, true, false, cond, ◌&&◌, map, refl, sym, ap, ◌∙◌, arith, zero-add}
use Rattle.std.specs.Prelude.{count_by, slice_get}
use Rattle.std.specs.List.{AllByRecursion, filter, list_all, sum_by}
use Rattle.std.proofs.lemmas.Bool.{and_parts, false≢true}
use Rattle.std.proofs.lemmas.List.{take_more}
use Rattle.std.proofs.lemmas.List.Sums.{count_by_more_no, count_by_more_yes, sum_by-cons}
use Rattle.std.proofs.lemmas.Option.{slice_get_within, slice_get-get_or}

-- a number for each of a list that passes a test
abbrev pub weigh : {X : Type 0} → (X → Bool) → ℕ → List X → ℕ
weigh t n [] = 0
weigh t n (x ∷ xs) = cond (t x) n 0 + weigh t n xs

pub weigh_zero : {X : Type 0} (t : X → Bool) (xs : List X) → weigh t 0 xs ≡ 0
weigh_zero t [] = refl
weigh_zero t (x ∷ xs) =
    let P : Bool → Type 0 = λ b. cond b 0 0 + weigh t 0 xs ≡ 0 in
    elim (t x) as P [ true ↦ zero-add (weigh t 0 xs) ∙ weigh_zero t xs | false ↦ zero-add (weigh t 0 xs) ∙ weigh_zero t xs ]

weigh_filter : {X : Type 0} (t : X → Bool) (n : ℕ) (xs : List X) → weigh t n xs ≡ weigh (λ _. true) n (filter t xs)
weigh_filter t n [] = refl
weigh_filter t n (x ∷ xs) =
    let P : Bool → Type 0 = λ b. cond b n 0 + weigh t n xs ≡ weigh (λ _. true) n (cond b (x ∷ filter t xs) (filter t xs)) in
    elim (t x) as P [ true ↦ ap (λ k. n + k) (weigh_filter t n xs) | false ↦ zero-add (weigh t n xs) ∙ weigh_filter t n xs ]

-- one passes
pub weigh_one : {X : Type 0} (t : X → Bool) (n : ℕ) (x : X) (xs : List X) → filter t xs ≡ x ∷ [] → weigh t n xs ≡ n
weigh_one t n x xs h = omega (arith, weigh_filter t n xs, ap (weigh (λ _. true) n) h)

pub sum_both : {X : Type 0} (f h : X → ℕ) (xs : List X) → sum_by (λ x. f x + h x) xs ≡ sum_by f xs + sum_by h xs
sum_both f h [] = refl
sum_both f h (x ∷ xs) = omega (arith, sum_by-cons (λ y. f y + h y) x xs, sum_by-cons f x xs, sum_by-cons h x xs, sum_both f h xs)

pub sum_same : {X : Type 0} (f h : X → ℕ) (xs : List X) → AllByRecursion (λ x. f x ≡ h x) xs → sum_by f xs ≡ sum_by h xs
sum_same f h [] all = refl
sum_same f h (x ∷ xs) all = omega (arith, sum_by-cons f x xs, sum_by-cons h x xs, all.0, sum_same f h xs all.1)

pub sum_none : {X : Type 0} (xs : List X) → sum_by (λ (x : X). 0) xs ≡ 0
sum_none [] = refl
sum_none {X = X} (x ∷ xs) = sum_by-cons (λ (y : X). 0) x xs ∙ zero-add (sum_by (λ (y : X). 0) xs) ∙ sum_none xs

-- what passes a test, where another is passed too
pub sum_passed : {X : Type 0} (b : Bool) (t : X → Bool) (f : X → ℕ) (xs : List X) → sum_by f (cond b (filter t xs) []) ≡ sum_by (λ x. cond (b && t x) (f x) 0) xs
sum_passed false t f xs = sym (sum_none xs)
sum_passed true t f [] = refl
sum_passed {X = X} true t f (x ∷ xs) =
    let h = λ (y : X). cond (t y) (f y) 0 in
    let P : Bool → Type 0 = λ b. sum_by f (cond b (x ∷ filter t xs) (filter t xs)) ≡ cond b (f x) 0 + sum_by h xs in
    (elim (t x) as P [
      | true ↦ sum_by-cons f x (filter t xs) ∙ ap (λ n. f x + n) (sum_passed true t f xs)
      | false ↦ sum_passed true t f xs ∙ sym (zero-add (sum_by h xs))
    ]) ∙ sym (sum_by-cons h x xs)

-- all but one that passes a test fail it
none_passes : {X : Type 0} (t : X → Bool) (x : X) (xs : List X) → filter t xs ≡ [] → AllByRecursion (λ y. t y ≡ true → y ≡ x) xs
none_passes t x [] h = tt
none_passes t x (y ∷ ys) h =
    let P : Bool → Type 0 = λ b. t y ≡ b → cond b (y ∷ filter t ys) (filter t ys) ≡ [] → AllByRecursion (λ z. t z ≡ true → z ≡ x) (y ∷ ys) in
    (elim (t y) as P [ true ↦ λ e k. cc | false ↦ λ e k. (λ p. absurd (false≢true (sym e ∙ p)), none_passes t x ys k) ]) refl h

pub one_passes : {X : Type 0} (t : X → Bool) (x : X) (xs : List X) → filter t xs ≡ x ∷ [] → AllByRecursion (λ y. t y ≡ true → y ≡ x) xs
one_passes t x [] h = tt
one_passes t x (y ∷ ys) h =
    let P : Bool → Type 0 = λ b. t y ≡ b → cond b (y ∷ filter t ys) (filter t ys) ≡ x ∷ [] → AllByRecursion (λ z. t z ≡ true → z ≡ x) (y ∷ ys) in
    (elim (t y) as P [
      | true ↦ λ e k. let same : y ≡ x = cc in let none : filter t ys ≡ [] = cc in (λ p. same, none_passes t x ys none)
      | false ↦ λ e k. (λ p. absurd (false≢true (sym e ∙ p)), one_passes t x ys k)
    ]) refl h

-- what holds of each for each number holds for each of each
pub all_for : {A X : Type 0} (P : A → X → Type 0) (xs : List X) → ((a : A) → AllByRecursion (P a) xs) → AllByRecursion (λ x. (a : A) → P a x) xs
all_for P [] h = tt
all_for P (x ∷ xs) h = (λ a. (h a).0, all_for P xs (λ a. (h a).1))

pub all_two : {X : Type 0} (P Q : X → Type 0) (xs : List X) → AllByRecursion P xs → AllByRecursion Q xs → AllByRecursion (λ x. P x × Q x) xs
all_two P Q [] h k = tt
all_two P Q (x ∷ xs) h k = ((h.0, k.0), all_two P Q xs h.1 k.1)

-- what all that pass a test have
pub all_passed : {X Y : Type 0} (g : X → Y) (u t : Y → Bool) (xs : List X) → list_all u (filter t (map g xs)) ≡ true → AllByRecursion (λ x. t (g x) ≡ true → u (g x) ≡ true) xs
all_passed g u t [] h = tt
all_passed g u t (x ∷ xs) h =
    let P : Bool → Type 0 = λ b. t (g x) ≡ b → list_all u (cond b (g x ∷ filter t (map g xs)) (filter t (map g xs))) ≡ true → AllByRecursion (λ y. t (g y) ≡ true → u (g y) ≡ true) (x ∷ xs) in
    (elim (t (g x)) as P [
      | true ↦ λ e k. let parts = and_parts (u (g x)) (list_all u (filter t (map g xs))) k in (λ p. parts.0, all_passed g u t xs parts.1)
      | false ↦ λ e k. (λ p. absurd (false≢true (sym e ∙ p)), all_passed g u t xs k)
    ]) refl h

-- one more of a list passes a test, or not
pub counted_more : {X : Type 0} (p : X → Bool) (xs : List X) (i : ℕ) (x : X) → slice_get xs i ≡ Some x → (b : Bool) → p x ≡ b → count_by p (take (i + 1) xs) ≡ count_by p (take i xs) + cond b 1 0
counted_more p xs i x at b is =
    let within : i < length xs = slice_get_within xs i x at in
    let found : Some (get_or xs i x) ≡ Some x = sym (slice_get-get_or xs i x within) ∙ at in
    let same : get_or xs i x ≡ x = cc in
    let P : Bool → Type 0 = λ t. p x ≡ t → count_by p (take (i + 1) xs) ≡ count_by p (take i xs) + cond t 1 0 in
    (elim b as P [
      | true ↦ λ e. count_by_more_yes p xs i x within (ap p same ∙ e)
      | false ↦ λ e. omega (arith, count_by_more_no p xs i x within (ap p same ∙ e))
    ]) is

-- one more of a list
pub taken_more : {X : Type 0} (xs : List X) (i : ℕ) (x : X) → slice_get xs i ≡ Some x → take (i + 1) xs ≡ take i xs ++ x ∷ []
taken_more xs i x at =
    let within : i < length xs = slice_get_within xs i x at in
    let found : Some (get_or xs i x) ≡ Some x = sym (slice_get-get_or xs i x within) ∙ at in
    let same : get_or xs i x ≡ x = cc in
    take_more xs i x within ∙ ap (λ y. take i xs ++ y ∷ []) same
