-- Texts that are cut at a byte: what stands before it, between two of them and behind the last.
use Rattle.std.proofs.Common.{◌≡◌, ℕ, List, [], ◌∷◌, ◌++◌, Bool, true, false, IsTrue, refl, sym, ap, ◌∙◌, append_assoc}
use Rattle.std.specs.List.{flat_map, list_all, AllByRecursion}
use Rattle.std.proofs.lemmas.Bool.{and_parts}

-- a byte that passes a test isn't one that fails it
pub passes : (p : ℕ → Bool) (x c : ℕ) → p x ≡ true → p c ≡ false → x ≡ c → ⊥
passes p x c held fails e = let h : true ≡ false = sym held ∙ ap p e ∙ fails in cc

-- two texts are the same up to the first byte that fails a test, and from it on
cut : (p : ℕ → Bool) (s t : List ℕ) (c d : ℕ) (a b : List ℕ) → IsTrue (list_all p s) → IsTrue (list_all p t) → p c ≡ false → p d ≡ false
    → s ++ c ∷ a ≡ t ++ d ∷ b → (s ≡ t) × (c ∷ a ≡ d ∷ b)
cut p [] [] c d a b hs ht fc fd e = (refl, e)
cut p [] (y ∷ t) c d a b hs ht fc fd e =
    let first : y ≡ c = cc in
    absurd (passes p y c (and_parts (p y) (list_all p t) ht).0 fc first)
cut p (x ∷ s) [] c d a b hs ht fc fd e =
    let first : x ≡ d = cc in
    absurd (passes p x d (and_parts (p x) (list_all p s) hs).0 fd first)
cut p (x ∷ s) (y ∷ t) c d a b hs ht fc fd e =
    let first : x ≡ y = cc in
    let others : s ++ c ∷ a ≡ t ++ d ∷ b = cc in
    let rest = cut p s t c d a b (and_parts (p x) (list_all p s) hs).1 (and_parts (p y) (list_all p t) ht).1 fc fd others in
    let same : s ≡ t = rest.0 in
    (cc, rest.1)

-- parts with one byte between them and another behind the last, and what follows
abbrev pub joined : ℕ → ℕ → List ℕ → List (List ℕ) → List ℕ → List ℕ
joined between last f [] a = f ++ last ∷ a
joined between last f (x ∷ xs) a = f ++ between ∷ joined between last x xs a

-- the same parts, each but the first behind its byte
pub joined_is : (between last : ℕ) (f : List ℕ) (xs : List (List ℕ)) (a : List ℕ) → f ++ (flat_map (λ x. between ∷ x) xs ++ last ∷ a) ≡ joined between last f xs a
joined_is between last f [] a = refl
joined_is between last f (x ∷ xs) a = ap (λ t. f ++ between ∷ t) (append_assoc x (flat_map (λ z. between ∷ z) xs) (last ∷ a) ∙ joined_is between last x xs a)

-- each text passes the test at each byte
abbrev pub AllPass : (ℕ → Bool) → List (List ℕ) → Type 0
AllPass p xs = AllByRecursion (λ x. IsTrue (list_all p x)) xs

module _ (p : ℕ → Bool) (between last : ℕ) (fails_between : p between ≡ false) (fails_last : p last ≡ false) where
  -- the first part is told, whatever follows it
  pub first_same : (f g : List ℕ) (xs ys : List (List ℕ)) (a b : List ℕ) → IsTrue (list_all p f) → IsTrue (list_all p g)
      → joined between last f xs a ≡ joined between last g ys b → f ≡ g
  first_same f g [] [] a b hf hg e = (cut p f g last last a b hf hg fails_last fails_last e).0
  first_same f g [] (y ∷ ys) a b hf hg e = (cut p f g last between a (joined between last y ys b) hf hg fails_last fails_between e).0
  first_same f g (x ∷ xs) [] a b hf hg e = (cut p f g between last (joined between last x xs a) b hf hg fails_between fails_last e).0
  first_same f g (x ∷ xs) (y ∷ ys) a b hf hg e = (cut p f g between between (joined between last x xs a) (joined between last y ys b) hf hg fails_between fails_between e).0

  -- all parts are told, and what stands behind the last byte
  pub joined_same : (between ≡ last → ⊥) → (f g : List ℕ) (xs ys : List (List ℕ)) (a b : List ℕ) → IsTrue (list_all p f) → IsTrue (list_all p g) → AllPass p xs → AllPass p ys
      → joined between last f xs a ≡ joined between last g ys b → (f ≡ g) × (xs ≡ ys) × (a ≡ b)
  joined_same apart f g [] [] a b hf hg hx hy e =
      let c = cut p f g last last a b hf hg fails_last fails_last e in
      let tails : last ∷ a ≡ last ∷ b = c.1 in
      (c.0, refl, cc)
  joined_same apart f g [] (y ∷ ys) a b hf hg hx hy e =
      let tails : last ∷ a ≡ between ∷ joined between last y ys b = (cut p f g last between a (joined between last y ys b) hf hg fails_last fails_between e).1 in
      let same : between ≡ last = cc in
      absurd (apart same)
  joined_same apart f g (x ∷ xs) [] a b hf hg hx hy e =
      let tails : between ∷ joined between last x xs a ≡ last ∷ b = (cut p f g between last (joined between last x xs a) b hf hg fails_between fails_last e).1 in
      let same : between ≡ last = cc in
      absurd (apart same)
  joined_same apart f g (x ∷ xs) (y ∷ ys) a b hf hg hx hy e =
      let c = cut p f g between between (joined between last x xs a) (joined between last y ys b) hf hg fails_between fails_between e in
      let tails : between ∷ joined between last x xs a ≡ between ∷ joined between last y ys b = c.1 in
      let others : joined between last x xs a ≡ joined between last y ys b = cc in
      let rest = joined_same apart x y xs ys a b hx.0 hy.0 hx.1 hy.1 others in
      let first : x ≡ y = rest.0 in
      let more : xs ≡ ys = rest.1 in
      (c.0, cc, rest.2)
