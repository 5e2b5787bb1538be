use Rattle.mi_tree.proofs.GridLemmas.{space_is_grid}
use Rattle.mi_tree.proofs.laws.spaces_are_grids.Goals as goal

pub returns : goal.returns
returns c = space_is_grid
