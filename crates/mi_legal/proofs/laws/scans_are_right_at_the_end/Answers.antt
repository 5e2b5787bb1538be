use Rattle.mi_legal.proofs.EndLemmas.{nearest_at_end, range_at_end}
use Rattle.mi_legal.proofs.laws.scans_are_right_at_the_end.Goals as goal

pub returns-clause-range : goal.returns-clause-range
returns-clause-range c = range_at_end

pub returns-clause-nearest : goal.returns-clause-nearest
returns-clause-nearest c = nearest_at_end
