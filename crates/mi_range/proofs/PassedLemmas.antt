-- Leaves that a query passes over.
use Rattle.std.proofs.Common.{◌≡◌, ℕ, suc, zero, ◌+◌, ◌-◌, ◌<◌, ◌≤◌, List, [], ◌∷◌, ◌++◌, length, take, false, Some, refl, sym, ap, ◌∙◌, subst, arith, append-nil}
use Rattle.std.specs.Prelude.{slice_get, count_by}
use Rattle.mi_key.specs.Entries.{Offering}
use Rattle.mi_key.specs.Shown.{Shown}
use Rattle.mi_range.specs.Leaves.{NoneIsLeft, NonePasses}
use Rattle.mi_range.specs.Opening.{leaves_offered}
use Rattle.mi_range.proofs.ScanLemmas.{leaves_more, none_offered}
use Rattle.mi_rules.specs.Passing.{passes}
use Rattle.mi_tree.specs.declared.outcomes.Leaf.{Leaf}
use Rattle.mi_tree.proofs.SumLemmas.{counted_more}

-- as many leaves pass before the one place as before the other, and as much is offered of them
pub record NothingBetween (dq : List ℕ) (radius levels : ℕ) (ls : List Leaf) (from to : ℕ) : Type 0 where
  pub counted : count_by (passes dq radius) (take to ls) ≡ count_by (passes dq radius) (take from ls)
  pub offered : (xs : List Shown) → leaves_offered dq radius levels xs (take to ls) ≡ leaves_offered dq radius levels xs (take from ls)

nothing_here : (dq : List ℕ) (radius levels : ℕ) (ls : List Leaf) (i : ℕ) → NothingBetween dq radius levels ls i i
nothing_here dq radius levels ls i = record { counted = refl; offered = λ xs. refl }

-- one leaf more that doesn't pass
nothing_more : (dq : List ℕ) (radius levels : ℕ) (ls : List Leaf) (i j : ℕ) (l : Leaf) → slice_get ls j ≡ Some l → passes dq radius l ≡ false
    → NothingBetween dq radius levels ls i j → NothingBetween dq radius levels ls i (j + 1)
nothing_more dq radius levels ls i j l at fails s = record {
  counted = omega (arith, counted_more (passes dq radius) ls j l at false fails, s.counted);
  offered = λ xs.
      leaves_more dq radius levels xs ls j l at ∙ ap (λ (os : List Offering). leaves_offered dq radius levels xs (take j ls) ++ os) (none_offered dq radius levels xs l fails)
      ∙ append-nil (leaves_offered dq radius levels xs (take j ls)) ∙ s.offered xs;
}

-- a leaf stands at each place within
pub leaf_at : (ls : List Leaf) (i : ℕ) → i < length ls → (l : Leaf) × (slice_get ls i ≡ Some l)
leaf_at [] i h = absurd (omega (arith, h))
leaf_at (l ∷ ls) zero h = (l, refl)
leaf_at (l ∷ ls) (suc i) h = leaf_at ls i (omega (arith, h))

passed_by : (dq : List ℕ) (radius levels : ℕ) (ls : List Leaf) (i n : ℕ) → i + n ≤ length ls
    → ((place : ℕ) (l : Leaf) → i ≤ place → place < i + n → slice_get ls place ≡ Some l → passes dq radius l ≡ false) → NothingBetween dq radius levels ls i (i + n)
passed_by dq radius levels ls i zero within none =
    let same : i + 0 ≡ i = omega arith in
    subst (λ (j : ℕ). NothingBetween dq radius levels ls i j) (sym same) (nothing_here dq radius levels ls i)
passed_by dq radius levels ls i (suc n) within none =
    let here = leaf_at ls (i + n) (omega (arith, within)) in
    let fails = none (i + n) here.0 (omega arith) (omega arith) here.1 in
    let before = passed_by dq radius levels ls i n (omega (arith, within)) (λ p l a b at. none p l a (omega (arith, b)) at) in
    let next : i + n + 1 ≡ i + suc n = omega arith in
    subst (λ (j : ℕ). NothingBetween dq radius levels ls i j) next (nothing_more dq radius levels ls i (i + n) here.0 here.1 fails before)

pub passed : (dq : List ℕ) (radius levels : ℕ) (ls : List Leaf) (i j : ℕ) → j ≤ length ls → NonePasses dq radius ls i j → NothingBetween dq radius levels ls i j
passed dq radius levels ls i j within s =
    let far : i + (j - i) ≡ j = omega (arith, s.onward) in
    subst (λ (k : ℕ). NothingBetween dq radius levels ls i k) far
    (passed_by dq radius levels ls i (j - i) (omega (arith, far, within)) (λ p l a b at. s.each p l a (omega (arith, b, far)) at))

-- where none is left, all places are passed
pub all_passed : (dq : List ℕ) (radius : ℕ) (ls : List Leaf) (i : ℕ) → i ≤ length ls → NoneIsLeft dq radius ls i → NonePasses dq radius ls i (length ls)
all_passed dq radius ls i within none = record { onward = within; each = λ p l a b at. none p l a at }
