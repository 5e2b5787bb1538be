-- The laws of L1, maximum and Hamming.
use Rattle.std.specs.Prelude.{◌≡◌, ℕ, ℤ, ◌+◌, ◌*◌, ◌≤◌, ◌-ℤ◌, ◌==◌, List, [], ◌∷◌, length, IsTrue, cond, unsigned_abs, refl}
use Rattle.std.proofs.Common.{sym, ◌∙◌, arith}
use Rattle.std.proofs.lemmas.Int.{ints}
use Rattle.std.proofs.lemmas.Bool.{and_parts, leb-true, eqb-true}
use Rattle.std.proofs.lemmas.Bool.Decides.{nat_tests}
use Rattle.mi_base.specs.declared.limits.TheConstants.{MAX_DIMS}
use Rattle.mi_base.specs.Vectors.{all_coordinates, is_coordinate}
use Rattle.mi_base.specs.Space.{IsMetric, sum_of_differences, greatest_difference, count_of_differences, has_dims, l1_metric, max_metric, hamming_metric}

abs_self : (x : ℤ) → unsigned_abs (x -ℤ x) ≡ 0
abs_self x = omega (arith, ints)

abs_apart : (x y : ℤ) → unsigned_abs (x -ℤ y) ≡ 0 → x ≡ y
abs_apart x y h = omega (arith, ints)

abs_symmetric : (x y : ℤ) → unsigned_abs (x -ℤ y) ≡ unsigned_abs (y -ℤ x)
abs_symmetric x y = omega (arith, ints)

abs_triangle : (x y z : ℤ) → unsigned_abs (x -ℤ z) ≤ unsigned_abs (x -ℤ y) + unsigned_abs (y -ℤ z)
abs_triangle x y z = omega (arith, ints)

abs_bound : (x y : ℤ) → unsigned_abs x ≤ 1000000 → unsigned_abs y ≤ 1000000 → unsigned_abs (x -ℤ y) ≤ 2000000
abs_bound x y h k = omega (arith, ints)

-- a vector that fits has so many coordinates
fitting : (dims : ℕ) (xs : List ℤ) → IsTrue (has_dims dims xs) → (length xs ≡ dims) × IsTrue (all_coordinates xs)
fitting dims xs h =
    let p = and_parts (length xs == dims) (all_coordinates xs) h in
    (eqb-true (length xs) dims p.0, p.1)

same_length : (dims : ℕ) (xs ys : List ℤ) → IsTrue (has_dims dims xs) → IsTrue (has_dims dims ys) → length xs ≡ length ys
same_length dims xs ys h k = (fitting dims xs h).0 ∙ sym (fitting dims ys k).0

sum_self : (xs : List ℤ) → sum_of_differences xs xs ≡ 0
sum_self [] = refl
sum_self (x ∷ xs) = omega (arith, abs_self x, sum_self xs)

sum_apart : (xs ys : List ℤ) → length xs ≡ length ys → sum_of_differences xs ys ≡ 0 → xs ≡ ys
sum_apart [] [] e h = refl
sum_apart [] (y ∷ ys) e h = absurd (omega arith)
sum_apart (x ∷ xs) [] e h = absurd (omega arith)
sum_apart (x ∷ xs) (y ∷ ys) e h =
    let head : x ≡ y = abs_apart x y (omega arith) in
    let tail : xs ≡ ys = sum_apart xs ys (omega arith) (omega arith) in
    cc

sum_symmetric : (xs ys : List ℤ) → sum_of_differences xs ys ≡ sum_of_differences ys xs
sum_symmetric [] [] = refl
sum_symmetric [] (y ∷ ys) = refl
sum_symmetric (x ∷ xs) [] = refl
sum_symmetric (x ∷ xs) (y ∷ ys) = omega (arith, abs_symmetric x y, sum_symmetric xs ys)

sum_triangle : (xs ys zs : List ℤ) → length xs ≡ length ys → length ys ≡ length zs → sum_of_differences xs zs ≤ sum_of_differences xs ys + sum_of_differences ys zs
sum_triangle [] ys zs e f = omega arith
sum_triangle (x ∷ xs) ys [] e f = omega arith
sum_triangle (x ∷ xs) [] (z ∷ zs) e f = absurd (omega arith)
sum_triangle (x ∷ xs) (y ∷ ys) (z ∷ zs) e f = omega (arith, abs_triangle x y z, sum_triangle xs ys zs (omega arith) (omega arith))

-- each coordinate adds at most 2,000,000
pub sum_bound : (xs ys : List ℤ) → IsTrue (all_coordinates xs) → IsTrue (all_coordinates ys) → sum_of_differences xs ys ≤ 2000000 * length xs
sum_bound [] ys a b = omega arith
sum_bound (x ∷ xs) [] a b = omega arith
sum_bound (x ∷ xs) (y ∷ ys) a b =
    let p = and_parts (is_coordinate x) (all_coordinates xs) a in
    let q = and_parts (is_coordinate y) (all_coordinates ys) b in
    omega (arith, abs_bound x y (leb-true (unsigned_abs x) 1000000 p.0) (leb-true (unsigned_abs y) 1000000 q.0), sum_bound xs ys p.1 q.1)

pub l1_is_metric : (dims : ℕ) → dims ≤ MAX_DIMS → IsMetric (l1_metric dims)
l1_is_metric dims few = record {
  same = λ x h. sum_self x;
  apart = λ x y h k e. sum_apart x y (same_length dims x y h k) e;
  symmetric = λ x y h k. sum_symmetric x y;
  triangle = λ x y z h k m. sum_triangle x y z (same_length dims x y h k) (same_length dims y z k m);
  bound = λ x y h k. omega (arith, sum_bound x y (fitting dims x h).1 (fitting dims y k).1, (fitting dims x h).0);
}

greatest_self : (xs : List ℤ) → greatest_difference xs xs ≡ 0
greatest_self [] = refl
greatest_self (x ∷ xs) = omega (arith, abs_self x, greatest_self xs)

greatest_apart : (xs ys : List ℤ) → length xs ≡ length ys → greatest_difference xs ys ≡ 0 → xs ≡ ys
greatest_apart [] [] e h = refl
greatest_apart [] (y ∷ ys) e h = absurd (omega arith)
greatest_apart (x ∷ xs) [] e h = absurd (omega arith)
greatest_apart (x ∷ xs) (y ∷ ys) e h =
    let head : x ≡ y = abs_apart x y (omega arith) in
    let tail : xs ≡ ys = greatest_apart xs ys (omega arith) (omega arith) in
    cc

greatest_symmetric : (xs ys : List ℤ) → greatest_difference xs ys ≡ greatest_difference ys xs
greatest_symmetric [] [] = refl
greatest_symmetric [] (y ∷ ys) = refl
greatest_symmetric (x ∷ xs) [] = refl
greatest_symmetric (x ∷ xs) (y ∷ ys) = omega (arith, abs_symmetric x y, greatest_symmetric xs ys)

greatest_triangle : (xs ys zs : List ℤ) → length xs ≡ length ys → length ys ≡ length zs → greatest_difference xs zs ≤ greatest_difference xs ys + greatest_difference ys zs
greatest_triangle [] ys zs e f = omega arith
greatest_triangle (x ∷ xs) ys [] e f = omega arith
greatest_triangle (x ∷ xs) [] (z ∷ zs) e f = absurd (omega arith)
greatest_triangle (x ∷ xs) (y ∷ ys) (z ∷ zs) e f = omega (arith, abs_triangle x y z, greatest_triangle xs ys zs (omega arith) (omega arith))

greatest_bound : (xs ys : List ℤ) → IsTrue (all_coordinates xs) → IsTrue (all_coordinates ys) → greatest_difference xs ys ≤ 2000000
greatest_bound [] ys a b = omega arith
greatest_bound (x ∷ xs) [] a b = omega arith
greatest_bound (x ∷ xs) (y ∷ ys) a b =
    let p = and_parts (is_coordinate x) (all_coordinates xs) a in
    let q = and_parts (is_coordinate y) (all_coordinates ys) b in
    omega (arith, abs_bound x y (leb-true (unsigned_abs x) 1000000 p.0) (leb-true (unsigned_abs y) 1000000 q.0), greatest_bound xs ys p.1 q.1)

pub max_is_metric : (dims : ℕ) → IsMetric (max_metric dims)
max_is_metric dims = record {
  same = λ x h. greatest_self x;
  apart = λ x y h k e. greatest_apart x y (same_length dims x y h k) e;
  symmetric = λ x y h k. greatest_symmetric x y;
  triangle = λ x y z h k m. greatest_triangle x y z (same_length dims x y h k) (same_length dims y z k m);
  bound = λ x y h k. omega (arith, greatest_bound x y (fitting dims x h).1 (fitting dims y k).1);
}

-- one position counts where its difference isn't 0
abbrev one : ℕ → ℕ
one n = cond (n == 0) 0 1

one_self : (n : ℕ) → n ≡ 0 → one n ≡ 0
one_self n h = grind (arith, nat_tests)

one_apart : (n : ℕ) → one n ≡ 0 → n ≡ 0
one_apart n h = grind (arith, nat_tests)

one_triangle : (a b c : ℕ) → c ≤ a + b → one c ≤ one a + one b
one_triangle a b c h = grind (arith, nat_tests)

one_bound : (n : ℕ) → one n ≤ 1
one_bound n = grind (arith, nat_tests)

count_self : (xs : List ℤ) → count_of_differences xs xs ≡ 0
count_self [] = refl
count_self (x ∷ xs) = omega (arith, one_self (unsigned_abs (x -ℤ x)) (abs_self x), count_self xs)

count_apart : (xs ys : List ℤ) → length xs ≡ length ys → count_of_differences xs ys ≡ 0 → xs ≡ ys
count_apart [] [] e h = refl
count_apart [] (y ∷ ys) e h = absurd (omega arith)
count_apart (x ∷ xs) [] e h = absurd (omega arith)
count_apart (x ∷ xs) (y ∷ ys) e h =
    let head : x ≡ y = abs_apart x y (one_apart (unsigned_abs (x -ℤ y)) (omega arith)) in
    let tail : xs ≡ ys = count_apart xs ys (omega arith) (omega arith) in
    cc

count_symmetric : (xs ys : List ℤ) → count_of_differences xs ys ≡ count_of_differences ys xs
count_symmetric [] [] = refl
count_symmetric [] (y ∷ ys) = refl
count_symmetric (x ∷ xs) [] = refl
count_symmetric (x ∷ xs) (y ∷ ys) = rw (abs_symmetric x y, count_symmetric xs ys) refl

count_triangle : (xs ys zs : List ℤ) → length xs ≡ length ys → length ys ≡ length zs → count_of_differences xs zs ≤ count_of_differences xs ys + count_of_differences ys zs
count_triangle [] ys zs e f = omega arith
count_triangle (x ∷ xs) ys [] e f = omega arith
count_triangle (x ∷ xs) [] (z ∷ zs) e f = absurd (omega arith)
count_triangle (x ∷ xs) (y ∷ ys) (z ∷ zs) e f =
    omega (arith, one_triangle (unsigned_abs (x -ℤ y)) (unsigned_abs (y -ℤ z)) (unsigned_abs (x -ℤ z)) (abs_triangle x y z), count_triangle xs ys zs (omega arith) (omega arith))

-- each position counts at most 1
pub count_bound : (xs ys : List ℤ) → count_of_differences xs ys ≤ length xs
count_bound [] ys = omega arith
count_bound (x ∷ xs) [] = omega arith
count_bound (x ∷ xs) (y ∷ ys) = omega (arith, one_bound (unsigned_abs (x -ℤ y)), count_bound xs ys)

pub hamming_is_metric : (dims : ℕ) → dims ≤ MAX_DIMS → IsMetric (hamming_metric dims)
hamming_is_metric dims few = record {
  same = λ x h. count_self x;
  apart = λ x y h k e. count_apart x y (same_length dims x y h k) e;
  symmetric = λ x y h k. count_symmetric x y;
  triangle = λ x y z h k m. count_triangle x y z (same_length dims x y h k) (same_length dims y z k m);
  bound = λ x y h k. omega (arith, count_bound x y, (fitting dims x h).0);
}
