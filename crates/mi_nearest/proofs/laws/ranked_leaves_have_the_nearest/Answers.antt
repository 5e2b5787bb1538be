use Rattle.mi_nearest.proofs.ScanLemmas.{has_nearest, walk_step}
use Rattle.mi_nearest.proofs.laws.ranked_leaves_have_the_nearest.Goals as goal

pub returns-clause-opens : goal.returns-clause-opens
returns-clause-opens c = walk_step

pub returns-clause-ends : goal.returns-clause-ends
returns-clause-ends c = has_nearest
