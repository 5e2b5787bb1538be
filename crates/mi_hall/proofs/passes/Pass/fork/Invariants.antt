use Rattle.atomic_table.specs.Table.{rest}
use Rattle.mi_latch.specs.Boards.{telling_same}
use Rattle.mi_latch.specs.Ends.{adding}
use Rattle.mi_hall.specs.Families.{board_out}
use Rattle.mi_hall.specs.Passes.{giving}
use Rattle.mi_hall.proofs.passes.Pass.fork.Given as goal

abbrev pub ghosts-give : goal.ghosts-give
ghosts-give g a = let m = a.seat.now.me in record { next = adding m.0 (board_out m.0.out) (telling_same m.0.mine) }

abbrev pub ghosts-give_board : goal.ghosts-give_board
ghosts-give_board g a = let m = a.seat.now.me in record { next = giving m.0 a.row.now a.board a.told (rest m.0.out) }
