-- Coordinates within their bounds make a vector.
use Rattle.std.proofs.Common.{◌≡◌, ℕ, zero, suc, ℤ, pos, negsuc, neg_ℤ, ◌≤ℤ◌, ◌≤◌, true, List, [], ◌∷◌, ◌++◌, length, Some, slice_get, refl, sym, ◌∙◌, arith, inl, inr, true≢false}
use Rattle.std.proofs.lemmas.Bool.{and_parts, le-leb}
use Rattle.std.proofs.lemmas.Int.{ints}
use Rattle.mi_base.specs.Vectors.{IsRefused, all_coordinates, is_coordinate}
use Rattle.mi_base.specs.declared.refusals.VectorRefusal.{VectorRefusal}
use Rattle.mi_base.specs.declared.refusals.VectorRefusal.TheVariants.{Length, Coordinate}
use Rattle.mi_input.specs.declared.vectors.Shape.{Shape}
use Rattle.mi_input.specs.Vectors.{IsShape}

-- from -1,000,000 to 1,000,000
pub between : (z : ℤ) → neg_ℤ (pos 1000000) ≤ℤ z → z ≤ℤ pos 1000000 → is_coordinate z ≡ true
between (pos n) lo hi = let few : n ≤ 1000000 = omega (arith, ints) in le-leb _ _ few
between (negsuc n) lo hi = let few : suc n ≤ 1000000 = omega (arith, ints) in le-leb _ _ few

-- the order of whole numbers is transitive
pub int_between : (a b c : ℤ) → a ≤ℤ b → b ≤ℤ c → a ≤ℤ c
int_between a b c p q = omega (arith, ints)

-- a number between the bounds of a shape is a coordinate
pub in_shape : (shape : Shape) (z : ℤ) → IsShape shape → shape.lowest ≤ℤ z → z ≤ℤ shape.highest → is_coordinate z ≡ true
in_shape shape z is lo hi = between z (int_between _ _ _ is.lowest lo) (int_between _ _ _ hi is.highest)

pub coordinates_more : (xs : List ℤ) (z : ℤ) → all_coordinates xs ≡ true → is_coordinate z ≡ true → all_coordinates (xs ++ z ∷ []) ≡ true
coordinates_more [] z all one = rw one refl
coordinates_more (x ∷ xs) z all one = let t = and_parts (is_coordinate x) (all_coordinates xs) all in rw (t.0, coordinates_more xs z t.1 one) refl

-- coordinates alone stand in a list of coordinates
coordinate_at : (xs : List ℤ) (place : ℕ) (z : ℤ) → all_coordinates xs ≡ true → slice_get xs place ≡ Some z → is_coordinate z ≡ true
coordinate_at [] place z all at = cc
coordinate_at (x ∷ xs) zero z all at = let e : x ≡ z = cc in rw (← e) (and_parts (is_coordinate x) (all_coordinates xs) all).0
coordinate_at (x ∷ xs) (suc place) z all at = coordinate_at xs place z (and_parts (is_coordinate x) (all_coordinates xs) all).1 at

-- 1 to 64 coordinates are never refused
pub not_refused : (xs : List ℤ) (why : VectorRefusal) → 1 ≤ length xs → length xs ≤ 64 → all_coordinates xs ≡ true → IsRefused xs why → ⊥
not_refused xs (Length items) some few all refused = elim refused.1 [ inl none ↦ absurd (omega arith) | inr many ↦ absurd (omega arith) ]
not_refused xs (Coordinate place value) some few all refused = true≢false (sym (coordinate_at xs place value all refused.2) ∙ refused.3)
