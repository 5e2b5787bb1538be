use Rattle.mi_forest.proofs.BoundLemmas.{sixteenth, height_bound}
use Rattle.mi_forest.proofs.CountLemmas.{pages_bound}
use Rattle.mi_forest.proofs.laws.levels_are_few.Goals as goal

pub returns-clause-sixteenth : goal.returns-clause-sixteenth
returns-clause-sixteenth c = sixteenth

pub returns-clause-height : goal.returns-clause-height
returns-clause-height c = height_bound

pub returns-clause-all : goal.returns-clause-all
returns-clause-all c = pages_bound
