use Rattle.std.proofs.Common.{◌≡◌, take}
use Rattle.std.specs.List.{flat_map}
use Rattle.mi_tree.specs.Counting.{split_leaf}
use Rattle.mi_tree.proofs.catalogs.Catalog.parted.Given as goal

abbrev pub invariant-loop-leaf : goal.invariant-loop-leaf
invariant-loop-leaf l = l.leaves.items ≡ flat_map (split_leaf l.self-inside.pivots l.prefix l.objects) (take l.leaf-index l.self-inside.leaves.items)
