use Rattle.mi_hall.specs.Passes.{giving}
use Rattle.mi_hall.specs.ShardHolds.{holding}
use Rattle.mi_hall.proofs.passes.Pass.reserve.Given as goal

abbrev pub ghosts-give_beside_rows : goal.ghosts-give_beside_rows
ghosts-give_beside_rows g a = record { next = giving a.seat.now.me.0 a.row.now a.board a.told (holding a.row.now.shard a.rows.now) }
