use Rattle.mi_settle.proofs.EntriesLemmasRest.{floor_is_end, nothing_retired}
use Rattle.mi_settle.proofs.settled.idle_boards_retire_none.Goals as goal

pub returns-clause-floor : goal.returns-clause-floor
returns-clause-floor c = λ s k. floor_is_end s k.sound

pub returns-clause-retired : goal.returns-clause-retired
returns-clause-retired c = λ s k. nothing_retired s k.sound
