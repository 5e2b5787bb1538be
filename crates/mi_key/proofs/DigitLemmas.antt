-- The order of numbers is the dictionary order of their digits.
use Rattle.std.proofs.Common.{◌≡◌, ℕ, suc, ◌+◌, ◌*◌, ◌<◌, ◌≤◌, ◌^◌, List, [], ◌∷◌, length, refl, sym, ap, ◌∙◌, subst, arith}
use Rattle.std.proofs.Math.Nat.{mul-le-mul_right, pow-zero, pow-suc}
use Rattle.std.specs.declared.cmp.Ordering.{Ordering}
use Rattle.std.specs.declared.cmp.Ordering.TheVariants.{Less, Equal, Greater}
use Rattle.std.specs.Ordering.{nat_cmp, ordering_then, MatchOrdering}
use Rattle.std.specs.Cmp.{nat_cmp_is, ranked}
use Rattle.std.specs.Cmp.Lexicographic.{slice_cmp}
use Rattle.std.specs.Int.Digits.{number_from_digits, number_from_digits_after, AllBelowBase}
use Rattle.std.proofs.lemmas.Int.Digits.{number_lt}

-- a number above a multiple is ordered by the quotient, then by what is left
pub split_cmp : (m p q r s : ℕ) → r < m → s < m → nat_cmp (p * m + r) (q * m + s) ≡ ordering_then (nat_cmp p q) (nat_cmp r s)
split_cmp m p q r s h k =
    let Stands : Ordering → Type 0 = λ o. MatchOrdering o (p * m + r < q * m + s) (p * m + r ≡ q * m + s) (q * m + s < p * m + r) in
    let P : Ordering → Type 0 = λ o. MatchOrdering o (p < q) (p ≡ q) (q < p) → Stands (ordering_then o (nat_cmp r s)) in
    let Q : Ordering → Type 0 = λ o. p ≡ q → MatchOrdering o (r < s) (r ≡ s) (s < r) → Stands o in
    let rest : Q (nat_cmp r s) = elim (nat_cmp r s) as Q [
      | Less ↦ λ e l. omega (arith, ap (λ x. x * m) e)
      | Equal ↦ λ e l. omega (arith, ap (λ x. x * m) e)
      | Greater ↦ λ e l. omega (arith, ap (λ x. x * m) e)
    ] in
    sym (nat_cmp_is (p * m + r) (q * m + s) (ordering_then (nat_cmp p q) (nat_cmp r s))
    ((elim (nat_cmp p q) as P [
      | Less ↦ λ l. let t : (p + 1) * m ≤ q * m = mul-le-mul_right m (omega arith) in omega arith
      | Equal ↦ λ e. rest e (ranked r s (nat_cmp r s) refl)
      | Greater ↦ λ l. let t : (q + 1) * m ≤ p * m = mul-le-mul_right m (omega arith) in omega arith
    ]) (ranked p q (nat_cmp p q) refl)))

spread : (n b d m k : ℕ) → (n * b + d) * m + k ≡ n * (m * b) + ((0 * b + d) * m + k)
spread n b d m k = omega arith

number_after : (b n : ℕ) (ds : List ℕ) → number_from_digits_after b n ds ≡ n * b ^ length ds + number_from_digits b ds
number_after b n [] = let e : n * 1 + 0 ≡ n = omega arith in sym (ap (λ k. n * k + 0) (pow-zero b) ∙ e)
number_after b n (d ∷ ds) =
    let m = b ^ length ds in
    let first = 0 * b + d in
    number_after b (n * b + d) ds
    ∙ spread n b d m (number_from_digits b ds)
    ∙ ap (λ k. n * k + (first * m + number_from_digits b ds)) (sym (pow-suc b (length ds)))
    ∙ ap (λ k. n * b ^ suc (length ds) + k) (sym (number_after b first ds))

-- the first digit counts by the base's power
pub number-cons : (b d : ℕ) (ds : List ℕ) → number_from_digits b (d ∷ ds) ≡ d * b ^ length ds + number_from_digits b ds
number-cons b d ds = let e : 0 * b + d ≡ d = omega arith in number_after b (0 * b + d) ds ∙ ap (λ k. k * b ^ length ds + number_from_digits b ds) e

-- of numbers with as many digits
pub number-cmp : (b : ℕ) (xs ys : List ℕ) → length xs ≡ length ys → AllBelowBase b xs → AllBelowBase b ys
    → nat_cmp (number_from_digits b xs) (number_from_digits b ys) ≡ slice_cmp nat_cmp xs ys
number-cmp b [] [] e h k = refl
number-cmp b [] (y ∷ ys) e h k = absurd (omega arith)
number-cmp b (x ∷ xs) [] e h k = absurd (omega arith)
number-cmp b (x ∷ xs) (y ∷ ys) e h k =
    let same : length xs ≡ length ys = omega arith in
    let m = b ^ length xs in
    let low : number_from_digits b ys < m = let P : ℕ → Type 0 = λ n. number_from_digits b ys < b ^ n in subst P (sym same) (number_lt b ys k.1) in
    ap (λ n. nat_cmp n (number_from_digits b (y ∷ ys))) (number-cons b x xs)
    ∙ ap (nat_cmp (x * m + number_from_digits b xs)) (number-cons b y ys ∙ ap (λ n. y * b ^ n + number_from_digits b ys) (sym same))
    ∙ split_cmp m x y (number_from_digits b xs) (number_from_digits b ys) (number_lt b xs h.1) low
    ∙ ap (ordering_then (nat_cmp x y)) (number-cmp b xs ys same h.1 k.1)
