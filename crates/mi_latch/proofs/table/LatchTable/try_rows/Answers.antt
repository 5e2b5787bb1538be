use Rattle.std.proofs.Common.{rules}
use Rattle.mi_latch.specs.Takes.{Finds, miss_shard_at, missed_shard_at, see_shard}
use Rattle.mi_latch.proofs.Takes.{finds_rows, got, tries_shard}
use Rattle.mi_latch.proofs.table.LatchTable.try_rows.Goals as goal

pub compare_exchange-found-requires : goal.compare_exchange-found-requires
compare_exchange-found-requires g c = let s = c.requires.seat in (search rules, search rules, rw (c.requires.of.0, c.requires.of.1) (tries_shard _ _ _ _ _ _ c.requires.near s.0 c.requires.idle s.1))

pub rows_of-requires : goal.rows_of-requires
rows_of-requires g c =
    let t = got (see_shard _) (Finds _) (miss_shard_at _) missed_shard_at _ _ _ _ _ _ c.requires.seat.0 c.compare_exchange-found.ensures.2 c.if-found-eq0.true c.exchange.ensures.2 c.exchange.ensures.3 in
    finds_rows _ _ c.args.shard _ c.requires.near t.1
