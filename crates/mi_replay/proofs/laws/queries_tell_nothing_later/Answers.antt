use Rattle.mi_replay.proofs.OrderLemmas.{query_without_later}
use Rattle.mi_replay.proofs.laws.queries_tell_nothing_later.Goals as goal

pub returns : goal.returns
returns c = λ c s t turns kept chained k j l i o p y z n m x w. query_without_later c s t turns kept chained k j l i o p y z n m x w
