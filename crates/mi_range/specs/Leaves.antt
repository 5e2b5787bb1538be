-- Which leaf a range query opens next.
use Rattle.std.specs.Prelude.{◌≡◌, ◌<◌, ◌≤◌, ℕ, List, Option, Some, None, true, false, length, slice_get}
use Rattle.std.specs.List.{AllByRecursion}
use Rattle.mi_base.specs.Prefixes.{all_below}
use Rattle.mi_key.specs.declared.ranges.Interval.{Interval}
use Rattle.mi_key.specs.Keys.{parts_of}
use Rattle.mi_key.specs.Ranges.{is_within}
use Rattle.mi_range.specs.declared.leaves.Opening.{Opening}
use Rattle.mi_rules.specs.Passing.{passes}
use Rattle.mi_rules.specs.Spans.{is_in_span}
use Rattle.mi_tree.specs.declared.outcomes.Leaf.{Leaf}

-- the prefix of each leaf is of at most so many of the pivots
abbrev pub AreOfPivots : ℕ → ℕ → List Leaf → Type 0
AreOfPivots pivots levels leaves = AllByRecursion (λ l. (length l.prefix ≤ levels) × (all_below pivots l.prefix ≡ true)) leaves

-- no leaf passes from one place up to another
pub record NonePasses (dq : List ℕ) (radius : ℕ) (leaves : List Leaf) (from to : ℕ) : Type 0 where
  pub onward : from ≤ to
  pub each : (place : ℕ) (leaf : Leaf) → from ≤ place → place < to → slice_get leaves place ≡ Some leaf → passes dq radius leaf ≡ false

-- none passes from one place on
abbrev pub NoneIsLeft : List ℕ → ℕ → List Leaf → ℕ → Type 0
NoneIsLeft dq radius leaves from = (place : ℕ) (leaf : Leaf) → from ≤ place → slice_get leaves place ≡ Some leaf → passes dq radius leaf ≡ false

-- the leaf at the place passes, and the interval has the keys of its span
pub record IsOpened (dq : List ℕ) (radius levels : ℕ) (leaves : List Leaf) (place : ℕ) (span : Interval) : Type 0 where
  pub leaf : Leaf
  pub stands : slice_get leaves place ≡ Some leaf
  pub passing : passes dq radius leaf ≡ true
  pub has : (key : ℕ) → is_within span key ≡ is_in_span dq radius levels leaf.prefix (parts_of key)

-- the first leaf from a place on that passes
abbrev pub FindsLeaf : List ℕ → ℕ → ℕ → List Leaf → ℕ → Option Opening → Type 0
FindsLeaf dq radius levels leaves from None = NoneIsLeft dq radius leaves from
FindsLeaf dq radius levels leaves from (Some o) = NonePasses dq radius leaves from o.place × IsOpened dq radius levels leaves o.place o.span
