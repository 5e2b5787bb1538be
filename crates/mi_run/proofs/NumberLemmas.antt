-- Numbers in ascending order that leave none out are those from the first on.
use Rattle.std.proofs.Common.{◌≡◌, ◌≢◌, ℕ, ◌+◌, ◌<◌, ◌≤◌, List, [], ◌∷◌, ◌++◌, length, Bool, true, false, ◌||◌, refl, sym, ap, ◌∙◌, subst, arith, inl, inr}
use Rattle.std.specs.Prelude.{◌==◌}
use Rattle.std.proofs.lemmas.Bool.{false≢true}
use Rattle.std.proofs.lemmas.Bool.Decides.{eqb_tells}
use Rattle.mi_base.specs.Prefixes.{has}
use Rattle.mi_run.specs.Crews.{Ascends}

-- each is one more than the one before it
abbrev pub Counts : ℕ → List ℕ → Type 0
Counts k [] = Unit {0}
Counts k (n ∷ ns) = (n ≡ k) × Counts (k + 1) ns

-- none that is at most so great is among greater ones
beyond : (a k : ℕ) (ns : List ℕ) → a ≤ k → Ascends k ns → has a ns ≡ false
beyond a k [] le up = refl
beyond a k (n ∷ ns) le up = elim (eqb_tells n a) [
  | inl e ↦ absurd (omega (arith, e.1, le, up.0))
  | inr e ↦ ap (λ b. b || has a ns) e.0 ∙ beyond a n ns (omega (arith, le, up.0)) up.1
]

behind : (a n : ℕ) (ns : List ℕ) → n < a → has a (n ∷ ns) ≡ true → has a ns ≡ true
behind a n ns lt h = elim (eqb_tells n a) [
  | inl e ↦ absurd (omega (arith, e.1, lt))
  | inr e ↦ sym (ap (λ b. b || has a ns) e.0) ∙ h
]

module _ (m : ℕ) where
  pub counted : (k : ℕ) (ns : List ℕ) → k < m → Ascends k ns → ((a : ℕ) → has a ns ≡ true → a < m) → ((a : ℕ) → k < a → a < m → has a ns ≡ true) → Counts (k + 1) ns × (k + 1 + length ns ≡ m)
  counted k [] lt up low all = (tt, last)
    where
      last : k + 1 + 0 ≡ m
      last = elim (eqb_tells (k + 1) m) [
        | inl e ↦ omega (arith, e.1)
        | inr e ↦ absurd (false≢true (all (k + 1) (omega arith) (omega (arith, lt, e.1))))
      ]
  counted k (n ∷ ns) lt up low all = elim (eqb_tells n (k + 1)) [
    | inl e ↦
        let next = counted n ns (low n here) up.1 (λ a h. low a (later a h)) (λ a more less. behind a n ns more (all a (omega (arith, more, up.0)) less)) in
        ((e.1, subst (λ x. Counts (x + 1) ns) e.1 next.0), omega (arith, next.1, e.1))
    | inr e ↦
        let wide : k + 1 < n = omega (arith, up.0, e.1) in
        absurd (false≢true (sym (beyond (k + 1) k' (n ∷ ns) (omega arith) (omega (arith, wide), up.1)) ∙ all (k + 1) (omega arith) (omega (arith, wide, low n here))))
  ]
    where
      k' : ℕ
      k' = k + 1

      here : has n (n ∷ ns) ≡ true
      here = elim (eqb_tells n n) [
        | inl e ↦ ap (λ b. b || has n ns) e.0
        | inr e ↦ absurd (e.1 refl)
      ]

      later : (a : ℕ) → has a ns ≡ true → has a (n ∷ ns) ≡ true
      later a h = elim (eqb_tells n a) [
        | inl e ↦ ap (λ b. b || has a ns) e.0
        | inr e ↦ ap (λ b. b || has a ns) e.0 ∙ h
      ]
