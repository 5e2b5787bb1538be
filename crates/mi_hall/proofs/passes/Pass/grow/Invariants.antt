use Rattle.atomic_table.specs.Table.{rest}
use Rattle.mi_latch.specs.Views.{now}
use Rattle.mi_hall.specs.Passes.{giving}
use Rattle.mi_hall.specs.Roots.{raising}
use Rattle.mi_hall.proofs.passes.Pass.grow.Given as goal

abbrev pub ghosts-give_board : goal.ghosts-give_board
ghosts-give_board g a = let m = a.seat.now.me in record { next = giving m.0 a.row.now a.board a.told (rest m.0.out) }

abbrev pub ghosts-give_vacant : goal.ghosts-give_vacant
ghosts-give_vacant g a = let m = a.seat.now.me in record { next = now m.0 m.0.mine (rest m.0.out) }

abbrev pub ghosts-give_raised : goal.ghosts-give_raised
ghosts-give_raised g a = record { next = raising a.seat.now.me.0 a.row.now a.board a.fresh a.root.now }
