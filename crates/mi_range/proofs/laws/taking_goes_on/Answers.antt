use Rattle.mi_range.specs.Taking.{takes_none, takes_more}
use Rattle.mi_range.proofs.laws.taking_goes_on.Goals as goal

pub returns-clause-none : goal.returns-clause-none
returns-clause-none c = takes_none

pub returns-clause-more : goal.returns-clause-more
returns-clause-more c = takes_more
