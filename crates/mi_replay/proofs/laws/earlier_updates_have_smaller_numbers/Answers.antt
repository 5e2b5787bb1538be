use Rattle.mi_replay.proofs.OrderLemmas.{smaller_number}
use Rattle.mi_replay.proofs.laws.earlier_updates_have_smaller_numbers.Goals as goal

pub returns : goal.returns
returns c = λ c s t turns kept chained k j l i o p y z n m x w. smaller_number c s t turns kept chained k j l i o p y z n m x w
