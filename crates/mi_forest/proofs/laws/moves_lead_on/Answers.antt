use Rattle.mi_forest.proofs.MoveLemmas.{right_of, last_of, move_right, move_down}
use Rattle.mi_forest.proofs.laws.moves_lead_on.Goals as goal

pub returns-clause-next : goal.returns-clause-next
returns-clause-next c = right_of

pub returns-clause-last : goal.returns-clause-last
returns-clause-last c = last_of

pub returns-clause-right : goal.returns-clause-right
returns-clause-right c = move_right

pub returns-clause-down : goal.returns-clause-down
returns-clause-down c = move_down
