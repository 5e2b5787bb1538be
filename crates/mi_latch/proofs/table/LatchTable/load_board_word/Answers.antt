use Rattle.std.proofs.Common.{rules}
use Rattle.mi_latch.proofs.Learning.{learns}
use Rattle.mi_latch.proofs.table.LatchTable.load_board_word.Goals as goal

pub load-requires : goal.load-requires
load-requires g c = (search rules, search rules, rw c.requires.of (learns _ _ _ _ _))
