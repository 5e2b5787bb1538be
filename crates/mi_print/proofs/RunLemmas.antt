-- Texts of lists: each item's text is told from the front, as many times as a number says or until another word comes.
use Rattle.std.proofs.Common.{◌≡◌, ℕ, List, [], ◌∷◌, ◌++◌, length, refl, sym, ◌∙◌, append_assoc, arith}
use Rattle.std.specs.List.{flat_map, AllByRecursion}

-- the text of an item can be told from the front of a longer text
pub record Tells {X : Type 0} (Good : X → Type 0) (f : X → List ℕ) : Type 0 where
  pub told : (x y : X) (a b : List ℕ) → Good x → Good y → f x ++ a ≡ f y ++ b → (x ≡ y) × (a ≡ b)

-- a text begins with no item's text
pub record BeginsNone {X : Type 0} (f : X → List ℕ) (a : List ℕ) : Type 0 where
  pub none : (x : X) (b : List ℕ) → f x ++ b ≡ a → ⊥

module _ {X : Type 0} (Good : X → Type 0) (f : X → List ℕ) (tells : Tells Good f) where
  one : (x y : X) (xs ys : List X) (a b : List ℕ) → Good x → Good y → (f x ++ flat_map f xs) ++ a ≡ (f y ++ flat_map f ys) ++ b → (x ≡ y) × (flat_map f xs ++ a ≡ flat_map f ys ++ b)
  one x y xs ys a b gx gy e = tells.told x y (flat_map f xs ++ a) (flat_map f ys ++ b) gx gy (sym (append_assoc (f x) (flat_map f xs) a) ∙ e ∙ append_assoc (f y) (flat_map f ys) b)

  -- as many items
  pub counted : (xs ys : List X) (a b : List ℕ) → AllByRecursion Good xs → AllByRecursion Good ys → length xs ≡ length ys → flat_map f xs ++ a ≡ flat_map f ys ++ b → (xs ≡ ys) × (a ≡ b)
  counted [] [] a b gx gy n e = (refl, e)
  counted [] (y ∷ ys) a b gx gy n e = absurd (omega arith)
  counted (x ∷ xs) [] a b gx gy n e = absurd (omega arith)
  counted (x ∷ xs) (y ∷ ys) a b gx gy n e =
      let first = one x y xs ys a b gx.0 gy.0 e in
      let rest = counted xs ys a b gx.1 gy.1 (omega arith) first.1 in
      let item : x ≡ y = first.0 in
      let items : xs ≡ ys = rest.0 in
      (cc, rest.1)

  -- items up to a text that begins with none
  pub ended : (xs ys : List X) (a b : List ℕ) → AllByRecursion Good xs → AllByRecursion Good ys → BeginsNone f a → BeginsNone f b → flat_map f xs ++ a ≡ flat_map f ys ++ b → (xs ≡ ys) × (a ≡ b)
  ended [] [] a b gx gy na nb e = (refl, e)
  ended [] (y ∷ ys) a b gx gy na nb e = absurd (na.none y (flat_map f ys ++ b) (sym (append_assoc (f y) (flat_map f ys) b) ∙ sym e))
  ended (x ∷ xs) [] a b gx gy na nb e = absurd (nb.none x (flat_map f xs ++ a) (sym (append_assoc (f x) (flat_map f xs) a) ∙ e))
  ended (x ∷ xs) (y ∷ ys) a b gx gy na nb e =
      let first = one x y xs ys a b gx.0 gy.0 e in
      let rest = ended xs ys a b gx.1 gy.1 na nb first.1 in
      let item : x ≡ y = first.0 in
      let items : xs ≡ ys = rest.0 in
      (cc, rest.1)
