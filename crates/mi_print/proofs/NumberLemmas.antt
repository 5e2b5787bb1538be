-- Decimal numbers as parts of a line: digits alone, so without commas, points and line feeds, and no two alike.
use Rattle.std.proofs.Common.{◌≡◌, ℕ, zero, suc, ◌+◌, ◌/◌, ◌%◌, ◌<◌, ◌≤◌, ℤ, pos, negsuc, List, [], ◌∷◌, ◌++◌, length, map, Bool, true, false, cond, ◌&&◌, ◌==◌, nat_le, IsTrue, refl, ap, ◌∙◌, arith, mod-lt, lt-ltb, le-leb}
use Rattle.std.specs.Fmt.{decimal, signed_decimal, digits, digits_onto, digit_glyph}
use Rattle.std.specs.List.{list_all}
use Rattle.std.proofs.lemmas.Bool.{and_from, and_parts}
use Rattle.std.proofs.lemmas.Fmt.{decimal_injective, signed_decimal_injective}
use Rattle.mi_print.specs.Meaning.{AreNumbers, AreCoordinates}
use Rattle.mi_print.proofs.CutLemmas.{passes, AllPass}

-- a test that each digit passes
pub record TakesDigits (p : ℕ → Bool) : Type 0 where
  pub takes : (c : ℕ) → 48 ≤ c → c ≤ 57 → p c ≡ true

-- the glyph of a last digit is a digit
glyph_passes : (p : ℕ → Bool) → TakesDigits p → (n : ℕ) → p (digit_glyph false (n % 10)) ≡ true
glyph_passes p t n =
    let small : n % 10 < 10 = mod-lt n (omega arith) in
    let is : digit_glyph false (n % 10) ≡ 48 + n % 10 = ap (λ (b : Bool). cond b (48 + n % 10) (87 + n % 10)) (lt-ltb (n % 10) 10 small) in
    ap p is ∙ t.takes (48 + n % 10) (omega arith) (omega arith)

onto_pass : (p : ℕ → Bool) → TakesDigits p → (k n : ℕ) (rest : List ℕ) → IsTrue (list_all p rest) → IsTrue (list_all p (digits_onto k 10 false n rest))
onto_pass p t zero n rest h = h
onto_pass p t (suc k) n rest h =
    let glyph = digit_glyph false (n % 10) in
    let more = and_from (p glyph) (list_all p rest) (glyph_passes p t n) h in
    elim (n / 10 == 0) as (λ b. IsTrue (list_all p (cond b (glyph ∷ rest) (digits_onto k 10 false (n / 10) (glyph ∷ rest))))) [ true ↦ more | false ↦ onto_pass p t k (n / 10) (glyph ∷ rest) more ]

-- a number has digits alone
pub decimal_passes : (p : ℕ → Bool) → TakesDigits p → (n : ℕ) → IsTrue (list_all p (decimal n))
unfolding digits
decimal_passes p t n = onto_pass p t 64 n [] refl

onto_some : (k n x : ℕ) (rest : List ℕ) → 0 < length (digits_onto k 10 false n (x ∷ rest))
onto_some zero n x rest = omega arith
onto_some (suc k) n x rest =
    let glyph = digit_glyph false (n % 10) in
    elim (n / 10 == 0) as (λ b. 0 < length (cond b (glyph ∷ x ∷ rest) (digits_onto k 10 false (n / 10) (glyph ∷ x ∷ rest)))) [ true ↦ omega arith | false ↦ onto_some k (n / 10) glyph (x ∷ rest) ]

-- a number has a digit
decimal_some : (n : ℕ) → 0 < length (decimal n)
unfolding digits
decimal_some n =
    let glyph = digit_glyph false (n % 10) in
    elim (n / 10 == 0) as (λ b. 0 < length (cond b (glyph ∷ []) (digits_onto 63 10 false (n / 10) (glyph ∷ [])))) [ true ↦ omega arith | false ↦ onto_some 63 (n / 10) glyph [] ]

abbrev pub is_digit : ℕ → Bool
is_digit b = nat_le 48 b && nat_le b 57

digit_takes : TakesDigits is_digit
digit_takes = record { takes = λ c low high. and_from (nat_le 48 c) (nat_le c 57) (le-leb 48 c low) (le-leb c 57 high) }

first_digit : (ds rest : List ℕ) (c : ℕ) (more : List ℕ) → 0 < length ds → IsTrue (list_all is_digit ds) → is_digit c ≡ false → ds ++ rest ≡ c ∷ more → ⊥
first_digit [] rest c more some digits other e = omega arith
first_digit (d ∷ ds) rest c more some digits other e =
    let first : d ≡ c = cc in
    passes is_digit d c (and_parts (is_digit d) (list_all is_digit ds) digits).0 other first

-- a number begins with a digit
pub decimal_begins : (n : ℕ) (rest : List ℕ) (c : ℕ) (more : List ℕ) → is_digit c ≡ false → decimal n ++ rest ≡ c ∷ more → ⊥
decimal_begins n rest c more other e = first_digit (decimal n) rest c more (decimal_some n) (decimal_passes is_digit digit_takes n) other e

pub decimals_pass : (p : ℕ → Bool) → TakesDigits p → (ns : List ℕ) → AllPass p (map decimal ns)
decimals_pass p t [] = tt
decimals_pass p t (n ∷ ns) = (decimal_passes p t n, decimals_pass p t ns)

pub signed_pass : (p : ℕ → Bool) → TakesDigits p → p 45 ≡ true → (zs : List ℤ) → AllPass p (map signed_decimal zs)
signed_pass p t sign [] = tt
signed_pass p t sign (pos n ∷ zs) = (decimal_passes p t n, signed_pass p t sign zs)
signed_pass p t sign (negsuc n ∷ zs) = (and_from (p 45) (list_all p (decimal (suc n))) sign (decimal_passes p t (suc n)), signed_pass p t sign zs)

pub decimals_same : (ns ms : List ℕ) → AreNumbers ns → AreNumbers ms → map decimal ns ≡ map decimal ms → ns ≡ ms
decimals_same [] [] hn hm e = refl
decimals_same [] (m ∷ ms) hn hm e = absurd cc
decimals_same (n ∷ ns) [] hn hm e = absurd cc
decimals_same (n ∷ ns) (m ∷ ms) hn hm e =
    let first : decimal n ≡ decimal m = cc in
    let others : map decimal ns ≡ map decimal ms = cc in
    let head : n ≡ m = decimal_injective n m hn.0 hm.0 first in
    let tail : ns ≡ ms = decimals_same ns ms hn.1 hm.1 others in
    cc

pub coordinates_same : (ys zs : List ℤ) → AreCoordinates ys → AreCoordinates zs → map signed_decimal ys ≡ map signed_decimal zs → ys ≡ zs
coordinates_same [] [] hy hz e = refl
coordinates_same [] (z ∷ zs) hy hz e = absurd cc
coordinates_same (y ∷ ys) [] hy hz e = absurd cc
coordinates_same (y ∷ ys) (z ∷ zs) hy hz e =
    let first : signed_decimal y ≡ signed_decimal z = cc in
    let others : map signed_decimal ys ≡ map signed_decimal zs = cc in
    let head : y ≡ z = signed_decimal_injective y z hy.0 hz.0 first in
    let tail : ys ≡ zs = coordinates_same ys zs hy.1 hz.1 others in
    cc
