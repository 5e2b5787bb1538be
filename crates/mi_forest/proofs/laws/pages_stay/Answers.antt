use Rattle.mi_forest.proofs.KeepLemmas.{grown_refl, grown_trans, rewrite_grown}
use Rattle.mi_forest.proofs.SplitLemmas.{halves_grown}
use Rattle.mi_forest.proofs.GrowLemmas.{grows_grown}
use Rattle.mi_forest.proofs.AllotLemmas.{allots_grown}
use Rattle.mi_forest.proofs.laws.pages_stay.Goals as goal

pub returns-clause-same : goal.returns-clause-same
returns-clause-same c = grown_refl

pub returns-clause-later : goal.returns-clause-later
returns-clause-later c = grown_trans

pub returns-clause-changed : goal.returns-clause-changed
returns-clause-changed c = rewrite_grown

pub returns-clause-halved : goal.returns-clause-halved
returns-clause-halved c = halves_grown

pub returns-clause-grown : goal.returns-clause-grown
returns-clause-grown c = grows_grown

pub returns-clause-allotted : goal.returns-clause-allotted
returns-clause-allotted c = allots_grown
