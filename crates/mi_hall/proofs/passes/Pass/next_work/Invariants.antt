use Rattle.atomic_table.specs.Table.{rest}
use Rattle.mi_hall.specs.Passes.{giving}
use Rattle.mi_hall.proofs.passes.Pass.next_work.Given as goal

abbrev pub ghosts-give_board : goal.ghosts-give_board
ghosts-give_board g a = let m = a.seat.now.me in record { next = giving m.0 a.row.now a.board a.told (rest m.0.out) }
