use Rattle.std.proofs.Common.{◌≡◌, ◌+◌, take}
use Rattle.mi_tree.proofs.catalogs.Catalog.copy.Given as goal

abbrev pub invariant-loop-leaf : goal.invariant-loop-leaf
invariant-loop-leaf g l = record {
  copied : l.leaves.items ≡ take l.leaf-index l.self-inside.leaves.items;
  ticks : l.steps ≡ l.fn.steps + l.leaf-index;
}
