use Rattle.std.proofs.Common.{◌<◌, arith}
use Rattle.mi_base.specs.Permutations.{begins}
use Rattle.mi_tree.specs.declared.outcomes.Leaf.{Leaf}
use Rattle.mi_tree.proofs.SearchLemmas.{one_decides}
use Rattle.test_cells.proofs.catalogs.remove.Goals as goal

pub remove-requires-clause-some : goal.remove-requires-clause-some
remove-requires-clause-some c =
    one_decides (λ (l : Leaf). begins l.prefix c.args.perm.now) (λ l. 0 < l.count) c.args.catalog.now.leaves c.locate-count.result c.locate-count.ensures (let n = c.if-count-gt0.true in omega arith)
