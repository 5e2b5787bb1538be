use Rattle.mi_replay.proofs.OrderLemmas.{tells_earlier}
use Rattle.mi_replay.proofs.laws.replies_tell_what_ended_before.Goals as goal

pub returns : goal.returns
returns c = λ c s t turns kept chained k j l i o p y z n m x w. tells_earlier c s t turns kept chained k j l i o p y z n m x w
