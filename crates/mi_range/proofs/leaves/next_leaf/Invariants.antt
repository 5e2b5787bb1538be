use Rattle.std.proofs.Common.{◌≡◌, ◌<◌, ◌≤◌, ℕ}
use Rattle.std.specs.Prelude.{Some, false, slice_get}
use Rattle.mi_rules.specs.Passing.{passes}
use Rattle.mi_tree.specs.declared.outcomes.Leaf.{Leaf}
use Rattle.mi_range.proofs.leaves.next_leaf.Given as goal

-- no leaf so far passes
abbrev pub invariant-loop-place : goal.invariant-loop-place
invariant-loop-place l = record {
  onward : l.from ≤ l.place;
  none : (p : ℕ) (leaf : Leaf) → l.from ≤ p → p < l.place → slice_get l.catalog.leaves p ≡ Some leaf → passes l.query.items l.radius leaf ≡ false;
}
