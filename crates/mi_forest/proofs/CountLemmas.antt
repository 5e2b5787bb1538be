-- How many pages there are.
use Rattle.std.proofs.Common.{◌≡◌, ℕ, zero, suc, ◌+◌, ◌*◌, ◌<◌, ◌≤◌, List, [], ◌∷◌, ◌++◌, length, length-append, Bool, true, false, ◌||◌, nat_eq, refl, ap, ◌∙◌, arith, inl, inr}
use Rattle.std.specs.List.{list_any}
use Rattle.std.proofs.lemmas.Bool.{cases_lt}
use Rattle.std.proofs.lemmas.List.Folds.{list_any-append}
use Rattle.std.proofs.lemmas.Map.Steps.{le-length_from_below}
use Rattle.mi_base.specs.Prefixes.{has}
use Rattle.mi_base.proofs.PrefixLemmas.{nat_eq-symmetric}
use Rattle.mi_forest.specs.Forests.{Forest, IsForest}
use Rattle.mi_forest.proofs.HandLemmas.{linked_or_held}
use Rattle.mi_forest.proofs.BoundLemmas.{sixteenth, height_bound}
use Rattle.mi_forest.proofs.PathLemmas.{below_root}

-- the pages of so many levels from this one on
abbrev levels_from : (ℕ → List ℕ) → ℕ → ℕ → List ℕ
levels_from chain level zero = []
levels_from chain level (suc more) = chain level ++ levels_from chain (level + 1) more

turned : (q : ℕ) (ns : List ℕ) → has q ns ≡ true → list_any (nat_eq q) ns ≡ true
turned q [] t = t
turned q (n ∷ ns) t =
    let P : Bool → Type 0 = λ b. (b || has q ns) ≡ true → (b || list_any (nat_eq q) ns) ≡ true in
    rw (nat_eq-symmetric q n) ((elim (nat_eq n q) as P [ true ↦ λ _. refl | false ↦ λ s. turned q ns s ]) t)

has_left : (q : ℕ) (xs ys : List ℕ) → has q xs ≡ true → has q (xs ++ ys) ≡ true
has_left q xs ys t = list_any-append (λ y. nat_eq y q) xs ys ∙ ap (λ b. b || has q ys) t

has_right : (q : ℕ) (xs ys : List ℕ) → has q ys ≡ true → has q (xs ++ ys) ≡ true
has_right q xs ys t = list_any-append (λ y. nat_eq y q) xs ys ∙ ap (λ b. has q xs || b) t ∙ or_yes (has q xs)
  where
    or_yes : (a : Bool) → (a || true) ≡ true
    or_yes true = refl
    or_yes false = refl

in_levels : (chain : ℕ → List ℕ) (q at level more : ℕ) → has q (chain at) ≡ true → level ≤ at → at < level + more → has q (levels_from chain level more) ≡ true
in_levels chain q at level zero t le lt = absurd (omega arith)
in_levels chain q at level (suc more) t le lt = elim (cases_lt level at) [
  | inl up ↦ has_right q (chain level) (levels_from chain (level + 1) more) (in_levels chain q at (level + 1) more t (omega arith) (omega arith))
  | inr here ↦ has_left q (chain level) (levels_from chain (level + 1) more) (ap (λ l. has q (chain l)) (let is : level ≡ at = omega arith in is) ∙ t)
]

module _ (f : Forest) (h : IsForest f) (few : f.allotted ≤ 200000) (hands : List ℕ) (all : (n : ℕ) → 0 < f.held n → has n hands ≡ true) where
  there : (q : ℕ) → q < f.allotted → list_any (nat_eq q) (levels_from f.chain 0 6 ++ hands) ≡ true
  there q lt = turned q (levels_from f.chain 0 6 ++ hands) (elim (linked_or_held f h q lt) [
    | inl l ↦ has_left q (levels_from f.chain 0 6) hands (in_levels f.chain q (f.node q).level 0 6 l.0 (omega arith) (let top = height_bound f h few in let under = below_root f h q l.0 in omega arith))
    | inr k ↦ has_right q (levels_from f.chain 0 6) hands (all q (let one = k.0 in omega arith))
  ])

  step : (level : ℕ) → 16 * length (f.chain (level + 1)) ≤ length (f.chain level) + 16
  step level = elim (cases_lt 1 (length (f.chain (level + 1)))) [
    | inl many ↦ let s = sixteenth f h level many in omega arith
    | inr few ↦ omega arith
  ]

  -- all pages together are little more than the leaf pages
  pub pages_bound : 15 * f.allotted ≤ 16 * length (f.chain 0) + 80 + 15 * length hands
  pages_bound =
      let most = le-length_from_below (levels_from f.chain 0 6 ++ hands) f.allotted there in
      let s0 = step 0 in
      let s1 = step 1 in
      let s2 = step 2 in
      let s3 = step 3 in
      let s4 = step 4 in
      let l = length-append (levels_from f.chain 0 6) hands in
      let l0 = length-append (f.chain 0) (levels_from f.chain 1 5) in
      let l1 = length-append (f.chain 1) (levels_from f.chain 2 4) in
      let l2 = length-append (f.chain 2) (levels_from f.chain 3 3) in
      let l3 = length-append (f.chain 3) (levels_from f.chain 4 2) in
      let l4 = length-append (f.chain 4) (levels_from f.chain 5 1) in
      let l5 = length-append (f.chain 5) (levels_from f.chain 6 0) in
      omega arith
