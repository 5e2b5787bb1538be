use Rattle.mi_legal.proofs.ReplyLemmas.{full_stays, reach_grows, right_grows}
use Rattle.mi_legal.proofs.laws.right_replies_stay_right.Goals as goal

pub returns-clause-right : goal.returns-clause-right
returns-clause-right c = λ s log more allotted session op o y few. right_grows s log more allotted session op o y (full_stays s log more few)

pub returns-clause-reach : goal.returns-clause-reach
returns-clause-reach c = reach_grows
