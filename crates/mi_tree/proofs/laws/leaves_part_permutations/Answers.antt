use Rattle.mi_tree.proofs.LeafLemmas.{one_leaf}
use Rattle.mi_tree.proofs.laws.leaves_part_permutations.Goals as goal

pub returns : goal.returns
returns c = one_leaf
