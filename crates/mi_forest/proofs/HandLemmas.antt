-- Pages in hands, and pages in chains.
use Rattle.std.proofs.Common.{◌≡◌, ◌≢◌, ℕ, ◌<◌, ◌≤◌, Bool, true, false, cond, nat_lt, refl, ap, subst, arith, inl, inr, ◌⊎◌}
use Rattle.std.proofs.lemmas.Bool.Decides.{nat_tests}
use Rattle.mi_base.specs.Prefixes.{has}
use Rattle.mi_forest.specs.Forests.{Forest, IsForest, IsLinked, occurrences}
use Rattle.mi_forest.proofs.MoveLemmas.{linked_in}
use Rattle.mi_forest.proofs.NumberLemmas.{has_times, no_times}

pub bool_cases : (b : Bool) → (b ≡ true) ⊎ (b ≡ false)
bool_cases true = inl refl
bool_cases false = inr refl

-- a number is 0 or 1 by a test
pub at_most_one : (b : Bool) → cond b 1 0 ≤ 1
at_most_one true = omega arith
at_most_one false = omega arith

-- a page in a hand is in no chain
pub hand_apart : (f : Forest) → IsForest f → (q : ℕ) → 0 < f.held q → (level m : ℕ) → has m (f.chain level) ≡ true → m ≢ q
hand_apart f h q held level m t same =
    let linked : IsLinked f q = linked_in f h level q (subst (λ (k : ℕ). has k (f.chain level) ≡ true) same t) in
    let some = has_times q (f.chain (f.node q).level) linked in
    let all = h.once q in
    let most = at_most_one (nat_lt q f.allotted) in
    omega arith

pub hand_times : (f : Forest) → IsForest f → (q : ℕ) → 0 < f.held q → (level : ℕ) → occurrences q (f.chain level) ≡ 0
hand_times f h q held level = elim (bool_cases (has q (f.chain level))) [
  | inl t ↦ absurd (hand_apart f h q held level q t refl)
  | inr t ↦ no_times q (f.chain level) t
]

-- it is in one hand
pub hand_once : (f : Forest) → IsForest f → (q : ℕ) → 0 < f.held q → (f.held q ≡ 1) × (cond {A = ℕ} (nat_lt q f.allotted) 1 0 ≡ 1)
hand_once f h q held =
    let all = h.once q in
    let most = at_most_one (nat_lt q f.allotted) in
    let none = hand_times f h q held (f.node q).level in
    (omega arith, omega arith)

pub below_one : (b : Bool) → 1 ≤ cond b 1 0 → b ≡ true
below_one true h = refl
below_one false h = absurd (omega arith)

-- a linked page is allotted, and in no hand
pub linked_allotted : (f : Forest) → IsForest f → (n : ℕ) → IsLinked f n → (nat_lt n f.allotted ≡ true) × (f.held n ≡ 0) × (occurrences n (f.chain (f.node n).level) ≡ 1)
linked_allotted f h n l =
    let some = has_times n (f.chain (f.node n).level) l in
    let all = h.once n in
    let below = below_one (nat_lt n f.allotted) (omega arith) in
    let count : cond {A = ℕ} (nat_lt n f.allotted) 1 0 ≡ 1 = ap (λ (b : Bool). cond {A = ℕ} b 1 0) below in
    (below, omega arith, omega arith)

pub allotted_below : (f : Forest) → IsForest f → (n : ℕ) → IsLinked f n → n < f.allotted
allotted_below f h n l = let r = (linked_allotted f h n l).0 in grind (arith, nat_tests)

-- each allotted page is linked or in one hand
pub linked_or_held : (f : Forest) → IsForest f → (n : ℕ) → n < f.allotted → (IsLinked f n × (f.held n ≡ 0)) ⊎ ((f.held n ≡ 1) × (has n (f.chain (f.node n).level) ≡ false))
linked_or_held f h n lt = elim (bool_cases (has n (f.chain (f.node n).level))) [
  | inl t ↦ inl (t, (linked_allotted f h n t).1)
  | inr t ↦
      let none = no_times n (f.chain (f.node n).level) t in
      let all = h.once n in
      let test : nat_lt n f.allotted ≡ true = grind (arith, nat_tests) in
      let count : cond {A = ℕ} (nat_lt n f.allotted) 1 0 ≡ 1 = ap (λ (b : Bool). cond {A = ℕ} b 1 0) test in
      inr (omega arith, t)
]
