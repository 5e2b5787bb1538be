use Rattle.mi_latch.proofs.Takes.{plain_board}
use Rattle.mi_latch.proofs.table.LatchTable.give_board_back.Goals as goal

pub give_back-requires-clause-plain : goal.give_back-requires-clause-plain
give_back-requires-clause-plain c = plain_board
