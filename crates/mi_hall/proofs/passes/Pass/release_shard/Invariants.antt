use Rattle.mi_hall.specs.ShardHolds.{releasing}
use Rattle.mi_hall.proofs.passes.Pass.release_shard.Given as goal

abbrev pub ghosts-give_shard : goal.ghosts-give_shard
ghosts-give_shard a = record { next = releasing a.seat.now.me.0 }
