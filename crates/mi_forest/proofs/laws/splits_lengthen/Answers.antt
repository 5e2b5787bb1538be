use Rattle.mi_forest.proofs.LengthLemmas.{longer, others_same}
use Rattle.mi_forest.proofs.laws.splits_lengthen.Goals as goal

pub returns-clause-own : goal.returns-clause-own
returns-clause-own c = longer

pub returns-clause-other : goal.returns-clause-other
returns-clause-other c = others_same
