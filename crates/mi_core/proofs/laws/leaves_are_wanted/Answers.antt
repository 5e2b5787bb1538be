use Rattle.mi_core.proofs.NextLemmas.{next_wanted}
use Rattle.mi_core.proofs.WantedLemmas.{wanted_in, wanted_out}
use Rattle.mi_core.proofs.laws.leaves_are_wanted.Goals as goal

pub returns-clause-found : goal.returns-clause-found
returns-clause-found c = wanted_in

pub returns-clause-follows : goal.returns-clause-follows
returns-clause-follows c = wanted_out

pub returns-clause-next : goal.returns-clause-next
returns-clause-next c = next_wanted
