use Rattle.mi_shard.proofs.PlaceLemmas.{single}
use Rattle.mi_shard.proofs.rows.ShardRows.reserve.Goals as goal

pub close_gaps-requires-clause-single : goal.close_gaps-requires-clause-single
close_gaps-requires-clause-single c = single c.self.inside.rows.items c.self.inside.places c.self.invariant.0
