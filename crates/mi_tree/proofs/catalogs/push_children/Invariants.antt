use Rattle.std.proofs.Common.{◌≡◌, ◌++◌, map}
use Rattle.mi_tree.specs.Cells.{children}
use Rattle.mi_tree.specs.Counting.{leaf_among}
use Rattle.mi_tree.proofs.catalogs.push_children.Given as goal

abbrev pub invariant-loop-pivot : goal.invariant-loop-pivot
invariant-loop-pivot l = l.leaves.items ≡ l.fn.leaves.items ++ map (leaf_among l.objects) (children l.pivot-counter l.prefix)
