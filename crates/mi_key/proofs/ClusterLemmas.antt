-- The digits of prefixes, and the order of their numbers.
use Rattle.std.proofs.Common.{◌≡◌, ℕ, zero, suc, ◌+◌, ◌-◌, ◌*◌, ◌<◌, ◌≤◌, ◌^◌, List, [], ◌∷◌, length, map, get_or, IsTrue, nat_lt, refl, sym, ap, ◌∙◌, arith}
use Rattle.std.proofs.Math.Nat.{mul-le-mul_right, pow-zero, pow-suc, pow-le-pow_left, pow-le-pow_right}
use Rattle.std.proofs.lemmas.Bool.{and_parts, ltb-true}
use Rattle.std.proofs.lemmas.Map.Lookups.{exact_bytes}
use Rattle.std.specs.declared.cmp.Ordering.{Ordering}
use Rattle.std.specs.declared.cmp.Ordering.TheVariants.{Less, Equal, Greater}
use Rattle.std.specs.Ordering.{nat_cmp, ordering_then, MatchOrdering}
use Rattle.std.specs.Cmp.{nat_cmp_is, ranked}
use Rattle.std.specs.Cmp.Lexicographic.{slice_cmp}
use Rattle.std.specs.Int.Digits.{number_from_digits, number_from_digits_after, AllBelowBase}
use Rattle.std.proofs.lemmas.Int.Digits.{number_lt}
use Rattle.mi_base.specs.Prefixes.{all_below}
use Rattle.mi_key.specs.Clusters.{cluster_of, digit_of, digits_of}
use Rattle.mi_key.proofs.DigitLemmas.{number-cmp}

pub length-digits_of : (levels : ℕ) (ps : List ℕ) → length (digits_of levels ps) ≡ levels
length-digits_of zero ps = refl
length-digits_of (suc levels) [] = omega (arith, length-digits_of levels [])
length-digits_of (suc levels) (p ∷ ps) = omega (arith, length-digits_of levels ps)

pub digits_of-below : (n levels : ℕ) (ps : List ℕ) → IsTrue (all_below n ps) → AllBelowBase (n + 1) (digits_of levels ps)
digits_of-below n zero ps h = tt
digits_of-below n (suc levels) [] h = (omega arith, digits_of-below n levels [] h)
digits_of-below n (suc levels) (p ∷ ps) h =
    let parts = and_parts (nat_lt p n) (all_below n ps) h in
    let low : p < n = ltb-true p n parts.0 in
    (omega arith, digits_of-below n levels ps parts.1)

cmp_self : (xs : List ℕ) → slice_cmp nat_cmp xs xs ≡ Equal
cmp_self [] = refl
cmp_self (x ∷ xs) = ap (λ o. ordering_then o (slice_cmp nat_cmp xs xs)) (sym (nat_cmp_is x x Equal refl)) ∙ cmp_self xs

cmp_digits : (p q : ℕ) → nat_cmp (p + 1) (q + 1) ≡ nat_cmp p q
cmp_digits p q =
    let P : Ordering → Type 0 = λ o. MatchOrdering o (p < q) (p ≡ q) (q < p) → MatchOrdering o (p + 1 < q + 1) (p + 1 ≡ q + 1) (q + 1 < p + 1) in
    sym (nat_cmp_is (p + 1) (q + 1) (nat_cmp p q) ((elim (nat_cmp p q) as P [ Less ↦ λ l. omega arith | Equal ↦ λ e. omega arith | Greater ↦ λ l. omega arith ]) (ranked p q (nat_cmp p q) refl)))

-- padding keeps the dictionary order of prefixes
pub digits-cmp : (levels : ℕ) (ps qs : List ℕ) → length ps ≤ levels → length qs ≤ levels → slice_cmp nat_cmp (digits_of levels ps) (digits_of levels qs) ≡ slice_cmp nat_cmp ps qs
digits-cmp levels [] [] h k = cmp_self (digits_of levels [])
digits-cmp zero [] (q ∷ qs) h k = absurd (omega arith)
digits-cmp zero (p ∷ ps) qs h k = absurd (omega arith)
digits-cmp (suc levels) [] (q ∷ qs) h k = ap (λ o. ordering_then o (slice_cmp nat_cmp (digits_of levels []) (digits_of levels qs))) (sym (nat_cmp_is 0 (q + 1) Less (omega arith)))
digits-cmp (suc levels) (p ∷ ps) [] h k = ap (λ o. ordering_then o (slice_cmp nat_cmp (digits_of levels ps) (digits_of levels []))) (sym (nat_cmp_is (p + 1) 0 Greater (omega arith)))
digits-cmp (suc levels) (p ∷ ps) (q ∷ qs) h k =
    ap (λ o. ordering_then o (slice_cmp nat_cmp (digits_of levels ps) (digits_of levels qs))) (cmp_digits p q)
    ∙ ap (ordering_then (nat_cmp p q)) (digits-cmp levels ps qs (omega arith) (omega arith))

-- numbers of cells are ordered as their prefixes are
pub cluster-cmp : (n levels : ℕ) (ps qs : List ℕ) → length ps ≤ levels → length qs ≤ levels → IsTrue (all_below n ps) → IsTrue (all_below n qs)
    → nat_cmp (cluster_of n levels ps) (cluster_of n levels qs) ≡ slice_cmp nat_cmp ps qs
unfolding cluster_of
cluster-cmp n levels ps qs h k a b =
    number-cmp (n + 1) (digits_of levels ps) (digits_of levels qs) (length-digits_of levels ps ∙ sym (length-digits_of levels qs)) (digits_of-below n levels ps a) (digits_of-below n levels qs b)
    ∙ digits-cmp levels ps qs h k

-- prefixes with one number are one
pub cluster-exact : (n levels : ℕ) (ps qs : List ℕ) → length ps ≤ levels → length qs ≤ levels → IsTrue (all_below n ps) → IsTrue (all_below n qs)
    → cluster_of n levels ps ≡ cluster_of n levels qs → ps ≡ qs
cluster-exact n levels ps qs h k a b e =
    exact_bytes ps qs (sym (cluster-cmp n levels ps qs h k a b) ∙ sym (nat_cmp_is (cluster_of n levels ps) (cluster_of n levels qs) Equal e))

-- of up to 32 pivots and 6 digits
pub power-small : (n k : ℕ) → n ≤ 32 → k ≤ 6 → (n + 1) ^ k ≤ 33 ^ 6
power-small n k h l =
    let a : (n + 1) ^ k ≤ (n + 1) ^ 6 = pow-le-pow_right {n = n + 1} (omega arith) {i = k} {j = 6} l in
    let b : (n + 1) ^ 6 ≤ 33 ^ 6 = pow-le-pow_left {n = n + 1} {m = 33} (omega arith) 6 in
    omega (arith, a, b)

pub cluster-small : (n levels : ℕ) (ps : List ℕ) → n ≤ 32 → levels ≤ 6 → IsTrue (all_below n ps) → cluster_of n levels ps < 33 ^ 6
unfolding cluster_of
cluster-small n levels ps h l a =
    omega (arith, number_lt (n + 1) (digits_of levels ps) (digits_of-below n levels ps a), ap (λ k. (n + 1) ^ k) (length-digits_of levels ps), power-small n levels h l)

padded_after : (b levels n : ℕ) (ps : List ℕ) → length ps ≤ levels
    → number_from_digits_after b n (digits_of levels ps) ≡ number_from_digits_after b n (map digit_of ps) * b ^ (levels - length ps)
padded_after b zero n [] h = let e : n * 1 ≡ n = omega arith in sym (ap (λ k. n * k) (pow-zero b) ∙ e)
padded_after b zero n (p ∷ ps) h = absurd (omega arith)
padded_after b (suc levels) n [] h =
    let all : levels - 0 ≡ levels = omega arith in
    let shift : (m : ℕ) → (n * b + 0) * m ≡ n * (m * b) = λ m. omega arith in
    let more : suc levels ≡ suc levels - 0 = omega arith in
    padded_after b levels (n * b + 0) [] (omega arith)
    ∙ ap (λ k. (n * b + 0) * b ^ k) all
    ∙ shift (b ^ levels)
    ∙ ap (λ k. n * k) (sym (pow-suc b levels))
    ∙ ap (λ k. n * b ^ k) more
padded_after b (suc levels) n (p ∷ ps) h =
    let e : levels - length ps ≡ suc levels - length (p ∷ ps) = omega arith in
    padded_after b levels (n * b + digit_of p) ps (omega arith) ∙ ap (λ k. number_from_digits_after b (n * b + digit_of p) (map digit_of ps) * b ^ k) e

-- padding multiplies by a power of the base
pub cluster_of-padded : (n levels : ℕ) (ps : List ℕ) → length ps ≤ levels → number_from_digits (n + 1) (map digit_of ps) * (n + 1) ^ (levels - length ps) ≡ cluster_of n levels ps
unfolding cluster_of
cluster_of-padded n levels ps h = sym (padded_after (n + 1) levels 0 ps h)

pub below_at : (n : ℕ) (ps : List ℕ) (i : ℕ) → i < length ps → IsTrue (all_below n ps) → get_or ps i 0 < n
below_at n [] i lt h = absurd (omega arith)
below_at n (p ∷ ps) zero lt h = ltb-true p n (and_parts (nat_lt p n) (all_below n ps) h).0
below_at n (p ∷ ps) (suc i) lt h = below_at n ps i (omega arith) (and_parts (nat_lt p n) (all_below n ps) h).1

-- one more digit
pub power-more : (b k d i : ℕ) → k < b ^ i → d < b → k * b + d < b ^ (i + 1)
power-more b k d i h l = let t : (k + 1) * b ≤ b ^ i * b = mul-le-mul_right b (omega arith) in let e : i + 1 ≡ suc i = omega arith in omega (arith, ap (λ j. b ^ j) e, pow-suc b i)

-- one more digit fits, of up to 32 pivots and 6 digits
pub digit-fits : (n k p i : ℕ) → n ≤ 32 → i < 6 → k < (n + 1) ^ i → p < n → (k * (n + 1) + p + 1 < (n + 1) ^ (i + 1)) × (k * (n + 1) + p + 1 < 33 ^ 6)
digit-fits n k p i few short h l =
    let next : k * (n + 1) + (p + 1) < (n + 1) ^ (i + 1) = power-more (n + 1) k (p + 1) i h (omega arith) in
    (omega arith, omega (arith, next, power-small n (i + 1) few (omega arith)))
