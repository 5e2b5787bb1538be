use Rattle.atomic_table.specs.Table.{rest}
use Rattle.mi_latch.specs.Views.{now}
use Rattle.mi_hall.specs.Passes.{halving_turn, turning}
use Rattle.mi_hall.proofs.passes.Pass.split_page.Given as goal

abbrev pub ghosts-give_page : goal.ghosts-give_page
ghosts-give_page g a = record { next = turning a.seat.now.me.0 a.row.now a.node }

abbrev pub ghosts-give_vacant : goal.ghosts-give_vacant
ghosts-give_vacant g a = let m = a.seat.now.me in record { next = now m.0 m.0.mine (rest m.0.out) }

abbrev pub ghosts-give_lower : goal.ghosts-give_lower
ghosts-give_lower g a = record { next = halving_turn a.seat.now.me.0 a.row.now a.child a.node }
