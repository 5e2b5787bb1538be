use Rattle.mi_hall.proofs.ShardPlaces.{claims_shard_seated, misses_shard_seated, releases_shard_seated}
use Rattle.mi_hall.proofs.shards.shards_follow.Goals as goal

pub returns-clause-taken : goal.returns-clause-taken
returns-clause-taken c = claims_shard_seated

pub returns-clause-held : goal.returns-clause-held
returns-clause-held c = misses_shard_seated

pub returns-clause-released : goal.returns-clause-released
returns-clause-released c = releases_shard_seated
