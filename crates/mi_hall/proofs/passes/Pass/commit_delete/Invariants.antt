use Rattle.mi_entries.specs.Records.{home}
use Rattle.mi_hall.specs.Commits.{committing}
use Rattle.mi_hall.specs.Passes.{turning}
use Rattle.mi_hall.proofs.passes.Pass.commit_delete.Given as goal

abbrev pub ghosts-give_page : goal.ghosts-give_page
ghosts-give_page g a = record { next = turning a.seat.now.me.0 a.row.now a.node }

abbrev pub ghosts-give_both : goal.ghosts-give_both
ghosts-give_both g a = record { next = committing a.seat.now.me.0 a.row.now a.board a.page a.node (home a.id) a.rows.now }
