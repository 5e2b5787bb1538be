use Rattle.std.proofs.Common.{◌<◌, arith}
use Rattle.mi_base.specs.Permutations.{begins}
use Rattle.mi_tree.specs.declared.outcomes.Leaf.{Leaf}
use Rattle.mi_tree.proofs.SearchLemmas.{one_decides}
use Rattle.test_cells.proofs.catalogs.add.Goals as goal

pub add-requires-clause-room : goal.add-requires-clause-room
add-requires-clause-room c =
    one_decides (λ (l : Leaf). begins l.prefix c.args.perm.now) (λ l. l.count < 4294967295) c.args.catalog.now.leaves c.locate-count.result c.locate-count.ensures (let n = c.if-count-lt1000.true in omega arith)
