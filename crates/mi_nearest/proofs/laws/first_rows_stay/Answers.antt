use Rattle.mi_nearest.proofs.FirstLemmas.{farther_out, first_of_same}
use Rattle.mi_nearest.proofs.laws.first_rows_stay.Goals as goal

pub returns-clause-farther : goal.returns-clause-farther
returns-clause-farther c = farther_out

pub returns-clause-order : goal.returns-clause-order
returns-clause-order c = first_of_same
