use Rattle.std.proofs.Common.{arith}
use Rattle.mi_base.proofs.HistoryLemmas.{few_updates}
use Rattle.mi_board.proofs.boards.Board.end.Goals as goal
use Rattle.mi_tree.proofs.LimitLemmas.{log_short}

pub overflow_cast-result : goal.overflow_cast-result
overflow_cast-result c = let b = c.self.invariant.board in omega (arith, log_short c.self.inside.settings b.limits c.self.inside.events.items b.legal, c.len.ensures)

pub overflow_sub-result : goal.overflow_sub-result
overflow_sub-result c = let b = c.self.invariant.board in omega (arith, few_updates c.self.inside.events.items, b.counted, c.len.ensures)
