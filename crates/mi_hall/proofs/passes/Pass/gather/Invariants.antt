use Rattle.mi_hall.specs.Passes.{turning}
use Rattle.mi_hall.proofs.passes.Pass.gather.Given as goal

abbrev pub ghosts-give_page : goal.ghosts-give_page
ghosts-give_page g a = record { next = turning a.seat.now.me.0 a.row.now a.node }
