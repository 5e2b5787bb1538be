-- The fronts of permutations.
use Rattle.std.proofs.Common.{◌≡◌, ℕ, zero, suc, ◌≤◌, List, [], ◌∷◌, length, take, drop, Bool, true, false, ◌&&◌, IsTrue, nat_eq, nat_lt, nat_le, refl, sym, ap, ◌∙◌, arith}
use Rattle.std.specs.List.{list_all, starts_with}
use Rattle.std.proofs.lemmas.Bool.{and_from, and_parts, leb-true, false≢true}
use Rattle.std.proofs.lemmas.Bool.Decides.{nat_tests}
use Rattle.std.proofs.lemmas.List.{take-append-drop, length-take-le}
use Rattle.mi_base.specs.Prefixes.{all_below, are_different, is_prefix}
use Rattle.mi_base.specs.Permutations.{is_permutation, begins}
use Rattle.mi_base.proofs.PrefixLemmas.{are_different-front}

-- what is below one number is below a greater one
pub all_below-more : (m n : ℕ) (xs : List ℕ) → m ≤ n → IsTrue (all_below m xs) → IsTrue (all_below n xs)
all_below-more m n [] le h = h
all_below-more m n (x ∷ xs) le h =
    let parts = and_parts (nat_lt x m) (all_below m xs) h in
    let below : nat_lt x m ≡ true = parts.0 in
    let low : nat_lt x n ≡ true = grind (arith, nat_tests) in
    and_from (nat_lt x n) (all_below n xs) low (all_below-more m n xs le parts.1)

list_all-take : {X : Type 0} (p : X → Bool) (n : ℕ) (xs : List X) → IsTrue (list_all p xs) → IsTrue (list_all p (take n xs))
list_all-take p zero xs h = refl
list_all-take p (suc n) [] h = refl
list_all-take p (suc n) (x ∷ xs) h =
    let parts = and_parts (p x) (list_all p xs) h in
    and_from (p x) (list_all p (take n xs)) parts.0 (list_all-take p n xs parts.1)

pub are_different-take : (n : ℕ) (xs : List ℕ) → IsTrue (are_different xs) → IsTrue (are_different (take n xs))
are_different-take n xs h =
    let whole : (are_different (take n xs) ≡ false) → ⊥ =
    λ e. false≢true (sym (are_different-front (take n xs) (drop n xs) e) ∙ ap are_different (take-append-drop n xs) ∙ h) in
    let Q : Bool → Type 0 = λ b. are_different (take n xs) ≡ b → IsTrue (are_different (take n xs)) in
    (elim (are_different (take n xs)) as Q [ true ↦ λ e. e | false ↦ λ e. absurd (whole e) ]) refl

-- the first pivots of a permutation name a cell
pub is_prefix-take : (n : ℕ) (ps : List ℕ) → n ≤ 6 → n ≤ length ps → IsTrue (is_permutation ps) → IsTrue (is_prefix (take n ps))
is_prefix-take n ps few within h =
    let parts = and_parts (nat_le (length ps) 32) (all_below (length ps) ps && are_different ps) h in
    let rest = and_parts (all_below (length ps) ps) (are_different ps) parts.1 in
    let size : length (take n ps) ≡ n = length-take-le n ps within in
    let short : nat_le (length (take n ps)) 6 ≡ true = grind (arith, nat_tests) in
    let small : length ps ≤ 32 = leb-true (length ps) 32 parts.0 in
    and_from _ _ short
    (and_from _ _ (list_all-take (λ x. nat_lt x 32) n ps (all_below-more (length ps) 32 ps small rest.0)) (are_different-take n ps rest.1))

-- `begins` is std's test, the other way about
pub begins-starts_with : (xs ys : List ℕ) → starts_with nat_eq ys xs ≡ begins xs ys
begins-starts_with [] ys = refl
begins-starts_with (x ∷ xs) [] = refl
begins-starts_with (x ∷ xs) (y ∷ ys) = ap (λ b. nat_eq x y && b) (begins-starts_with xs ys)
