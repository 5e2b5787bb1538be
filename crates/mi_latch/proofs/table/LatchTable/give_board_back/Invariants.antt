use Rattle.atomic_table.specs.Table.{rest}
use Rattle.mi_latch.specs.Views.{now}
use Rattle.mi_latch.proofs.table.LatchTable.give_board_back.Given as goal

abbrev pub ghosts-give_back : goal.ghosts-give_back
ghosts-give_back a = let m = a.seat.now.me in record { next = now m.0 m.0.mine (rest m.0.out) }
