use Rattle.mi_forest.proofs.LawLemmas.{has_here, lives_here}
use Rattle.mi_forest.proofs.laws.keys_are_looked_up.Goals as goal

pub returns-clause-any : goal.returns-clause-any
returns-clause-any c = has_here

pub returns-clause-living : goal.returns-clause-living
returns-clause-living c = lives_here
