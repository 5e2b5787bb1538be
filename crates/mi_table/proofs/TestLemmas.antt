-- The tests of each kind of fault, on plain numbers.
use Rattle.std.proofs.Common.{◌≡◌, ℕ, ◌<◌, ◌≤◌, ◌==◌, ◌&&◌, true, false, not, nat_lt, arith}
use Rattle.std.proofs.lemmas.Bool.Decides.{nat_tests}

pub other : (a b : ℕ) → (a ≡ b → ⊥) → not (a == b) ≡ true
other a b h = grind (arith, nat_tests)

pub not_other : (a b : ℕ) → a ≡ b → not (a == b) ≡ false
not_other a b h = grind (arith, nat_tests)

pub zero_apart : (i j d : ℕ) → (i ≡ j → ⊥) → d ≡ 0 → (not (i == j) && (d == 0)) ≡ true
zero_apart i j d h k = grind (arith, nat_tests)

pub zero_at_home : (i j d : ℕ) → i ≡ j → (not (i == j) && (d == 0)) ≡ false
zero_at_home i j d h = grind (arith, nat_tests)

pub not_zero : (i j d : ℕ) → (d ≡ 0 → ⊥) → (not (i == j) && (d == 0)) ≡ false
not_zero i j d h = grind (arith, nat_tests)

pub asymmetric : (i j a b : ℕ) → i < j → (a ≡ b → ⊥) → (nat_lt i j && not (a == b)) ≡ true
asymmetric i j a b h k = grind (arith, nat_tests)

pub not_rising : (i j a b : ℕ) → j ≤ i → (nat_lt i j && not (a == b)) ≡ false
not_rising i j a b h = grind (arith, nat_tests)

pub same_back : (i j a b : ℕ) → a ≡ b → (nat_lt i j && not (a == b)) ≡ false
same_back i j a b h = grind (arith, nat_tests)

pub shorter : (a b : ℕ) → a < b → nat_lt a b ≡ true
shorter a b h = grind (arith, nat_tests)

pub not_shorter : (a b : ℕ) → b ≤ a → nat_lt a b ≡ false
not_shorter a b h = grind (arith, nat_tests)
