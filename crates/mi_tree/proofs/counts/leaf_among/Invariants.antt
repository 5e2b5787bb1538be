use Rattle.std.proofs.Common.{◌≡◌, ◌≤◌, take}
use Rattle.mi_tree.specs.Counting.{leaf_among}
use Rattle.mi_tree.proofs.counts.leaf_among.Given as goal

abbrev pub invariant-loop-object : goal.invariant-loop-object
invariant-loop-object l = (l.leaf ≡ leaf_among (take l.object-index l.objects) l.fn.prefix) × (l.leaf.count ≤ l.object-index)
