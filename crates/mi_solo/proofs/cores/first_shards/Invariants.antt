use Rattle.std.proofs.Common.{◌≡◌, replicate}
use Rattle.mi_entries.specs.Records.{no_shard}
use Rattle.mi_solo.proofs.cores.first_shards.Given as goal

abbrev pub invariant-loop : goal.invariant-loop
invariant-loop l = l.shards.items ≡ replicate l.counter no_shard
