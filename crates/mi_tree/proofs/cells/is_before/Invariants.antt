use Rattle.std.proofs.Common.{◌≡◌, drop}
use Rattle.mi_tree.specs.Order.{before}
use Rattle.mi_tree.proofs.cells.is_before.Given as goal

-- the lists are equal so far
abbrev pub invariant-loop-place : goal.invariant-loop-place
invariant-loop-place l = (before (drop l.place l.pivots) (drop l.place l.prefix) ≡ before l.pivots l.prefix) × (l.pivot-items ≡ l.prefix)
