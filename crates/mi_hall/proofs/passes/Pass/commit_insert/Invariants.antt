use Rattle.mi_hall.specs.CommitRows.{giving_beside}
use Rattle.mi_hall.specs.Passes.{turning}
use Rattle.mi_hall.proofs.passes.Pass.commit_insert.Given as goal

abbrev pub ghosts-give_page : goal.ghosts-give_page
ghosts-give_page g a = record { next = turning a.seat.now.me.0 a.row.now a.node }

abbrev pub ghosts-give_beside_page : goal.ghosts-give_beside_page
ghosts-give_beside_page g a = record { next = giving_beside a.seat.now.me.0 a.row.now a.board a.page a.node.now a.shard a.rows.now }
