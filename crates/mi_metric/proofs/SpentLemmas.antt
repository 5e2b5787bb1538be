-- Where one list is spent, no difference is left.
use Rattle.std.proofs.Common.{◌≡◌, ℤ, List, [], ◌∷◌, length, refl, arith}
use Rattle.mi_base.specs.Space.{sum_of_differences, greatest_difference, count_of_differences}

pub sum_spent_left : (xs ys : List ℤ) → length xs ≡ 0 → sum_of_differences xs ys ≡ 0
sum_spent_left [] ys h = refl
sum_spent_left (x ∷ xs) ys h = absurd (omega arith)

pub sum_spent_right : (xs ys : List ℤ) → length ys ≡ 0 → sum_of_differences xs ys ≡ 0
sum_spent_right [] ys h = refl
sum_spent_right (x ∷ xs) [] h = refl
sum_spent_right (x ∷ xs) (y ∷ ys) h = absurd (omega arith)

pub greatest_spent_left : (xs ys : List ℤ) → length xs ≡ 0 → greatest_difference xs ys ≡ 0
greatest_spent_left [] ys h = refl
greatest_spent_left (x ∷ xs) ys h = absurd (omega arith)

pub greatest_spent_right : (xs ys : List ℤ) → length ys ≡ 0 → greatest_difference xs ys ≡ 0
greatest_spent_right [] ys h = refl
greatest_spent_right (x ∷ xs) [] h = refl
greatest_spent_right (x ∷ xs) (y ∷ ys) h = absurd (omega arith)

pub count_spent_left : (xs ys : List ℤ) → length xs ≡ 0 → count_of_differences xs ys ≡ 0
count_spent_left [] ys h = refl
count_spent_left (x ∷ xs) ys h = absurd (omega arith)

pub count_spent_right : (xs ys : List ℤ) → length ys ≡ 0 → count_of_differences xs ys ≡ 0
count_spent_right [] ys h = refl
count_spent_right (x ∷ xs) [] h = refl
count_spent_right (x ∷ xs) (y ∷ ys) h = absurd (omega arith)
