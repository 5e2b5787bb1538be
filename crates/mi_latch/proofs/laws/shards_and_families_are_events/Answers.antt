use Rattle.mi_latch.proofs.BoardForks.{fork_is}
use Rattle.mi_latch.proofs.EndingDoings.{absorb_is}
use Rattle.mi_latch.proofs.Takes.{claim_is, release_is}
use Rattle.mi_latch.proofs.laws.shards_and_families_are_events.Goals as goal

pub returns-clause-claim : goal.returns-clause-claim
returns-clause-claim c = λ settings v k. claim_is k settings v

pub returns-clause-release : goal.returns-clause-release
returns-clause-release c = λ settings m k rows. release_is k settings m rows

pub returns-clause-birth : goal.returns-clause-birth
returns-clause-birth c = fork_is

pub returns-clause-joined : goal.returns-clause-joined
returns-clause-joined c = absorb_is
