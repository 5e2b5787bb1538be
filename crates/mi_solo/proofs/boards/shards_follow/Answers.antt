use Rattle.mi_solo.proofs.ClaimEvents.{claims_shard, misses_shard, releases_shard}
use Rattle.mi_solo.proofs.boards.shards_follow.Goals as goal

pub returns-clause-taken : goal.returns-clause-taken
returns-clause-taken c = claims_shard

pub returns-clause-held : goal.returns-clause-held
returns-clause-held c = misses_shard

pub returns-clause-released : goal.returns-clause-released
returns-clause-released c = releases_shard
