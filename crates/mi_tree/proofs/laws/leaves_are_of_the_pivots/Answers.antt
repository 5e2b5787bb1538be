use Rattle.mi_tree.proofs.FitLemmas.{leaves_fit}
use Rattle.mi_tree.proofs.laws.leaves_are_of_the_pivots.Goals as goal

pub returns : goal.returns
returns c = leaves_fit
