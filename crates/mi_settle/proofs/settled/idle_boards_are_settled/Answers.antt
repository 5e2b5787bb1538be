use Rattle.mi_settle.proofs.EntriesLemmasRest.{all_settled, nothing_passed}
use Rattle.mi_settle.proofs.settled.idle_boards_are_settled.Goals as goal

pub returns-clause-settled : goal.returns-clause-settled
returns-clause-settled c = λ s k. all_settled s k.sound

pub returns-clause-passed : goal.returns-clause-passed
returns-clause-passed c = λ s k. nothing_passed s k.sound
