use Rattle.std.proofs.Common.{sym}
use Rattle.mi_latch.proofs.table.LatchTable.take_board.Goals as goal

pub board_of-requires : goal.board_of-requires
board_of-requires g c = let f = c.take_slot.ensures.told in (f.core.board, sym f.value)
