use Rattle.mi_rules.proofs.RuleLemmas.{bound_passes, passing_grows}
use Rattle.mi_rules.proofs.laws.passing_grows.Goals as goal

pub returns-clause-grows : goal.returns-clause-grows
returns-clause-grows c = passing_grows

pub returns-clause-bound : goal.returns-clause-bound
returns-clause-bound c = bound_passes
