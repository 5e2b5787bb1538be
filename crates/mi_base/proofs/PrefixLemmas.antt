-- Lists of different numbers, as they grow at their end.
use Rattle.std.proofs.Common.{◌≡◌, ℕ, ◌+◌, ◌<◌, List, [], ◌∷◌, ◌++◌, length, take, drop, get_or, Bool, true, false, not, ◌&&◌, ◌||◌, nat_eq, refl, sym, ap, ◌∙◌, arith}
use Rattle.std.proofs.lemmas.Bool.Decides.{nat_tests}
use Rattle.std.proofs.lemmas.List.Folds.{list_any-append}
use Rattle.std.proofs.lemmas.List.{take_more, take-append-drop}
use Rattle.mi_base.specs.Prefixes.{has, are_different}

pub nat_eq-symmetric : (x y : ℕ) → nat_eq x y ≡ nat_eq y x
nat_eq-symmetric x y = grind (arith, nat_tests)

regroup : (a b c d : Bool) → (not (a || (b || false)) && (not c && d)) ≡ (not (b || c) && (not a && d))
regroup true true true d = refl
regroup true true false d = refl
regroup true false true d = refl
regroup true false false d = refl
regroup false true true d = refl
regroup false true false d = refl
regroup false false true d = refl
regroup false false false d = refl

-- one more number, which none before it is
pub are_different-append : (xs : List ℕ) (y : ℕ) → are_different (xs ++ y ∷ []) ≡ (not (has y xs) && are_different xs)
are_different-append [] y = refl
are_different-append (x ∷ xs) y =
    ap (λ b. not b && are_different (xs ++ y ∷ [])) (list_any-append (λ z. nat_eq z x) xs (y ∷ []))
    ∙ ap (λ b. not (has x xs || (nat_eq y x || false)) && b) (are_different-append xs y)
    ∙ regroup (has x xs) (nat_eq y x) (has y xs) (are_different xs)
    ∙ ap (λ b. not (b || has y xs) && (not (has x xs) && are_different xs)) (nat_eq-symmetric y x)

pub and-false : (a : Bool) → (a && false) ≡ false
and-false true = refl
and-false false = refl

-- what stands twice in a front stands twice in the whole
pub are_different-front : (xs ys : List ℕ) → are_different xs ≡ false → are_different (xs ++ ys) ≡ false
are_different-front [] ys h = cc
are_different-front (x ∷ xs) ys h =
    let P : Bool → Type 0 = λ b. has x xs ≡ b → (not b && are_different xs) ≡ false → are_different (x ∷ xs ++ ys) ≡ false in
    (elim (has x xs) as P [
      | true ↦ λ e _. ap (λ b. not b && are_different (xs ++ ys)) (list_any-append (λ z. nat_eq z x) xs ys ∙ ap (λ b. b || has x ys) e)
      | false ↦ λ e d. ap (λ b. not (has x (xs ++ ys)) && b) (are_different-front xs ys d) ∙ and-false (not (has x (xs ++ ys)))
    ]) refl h

-- a number that stands earlier stands twice
pub are_different-repeat : (xs : List ℕ) (i : ℕ) → i < length xs → has (get_or xs i 0) (take i xs) ≡ true → are_different xs ≡ false
are_different-repeat xs i lt h =
    let front : are_different (take (i + 1) xs) ≡ false = ap are_different (take_more xs i 0 lt) ∙ are_different-append (take i xs) (get_or xs i 0) ∙ ap (λ b. not b && are_different (take i xs)) h in
    ap are_different (sym (take-append-drop (i + 1) xs)) ∙ are_different-front (take (i + 1) xs) (drop (i + 1) xs) front
