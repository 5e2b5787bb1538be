use Rattle.std.proofs.Common.{◌∙◌}
use Rattle.mi_solo.proofs.BoardTurns.{works_keep}
use Rattle.mi_hall.proofs.AbsorbedLemmas.{kept_gone}
use Rattle.mi_hall.proofs.NamedPages.{board_near}
use Rattle.mi_hall.proofs.NextWorkCall.{works_cells, works_does, works_fits, works_free, works_told}
use Rattle.mi_hall.proofs.PassLemmas.{given_at, given_pass, word_stays}
use Rattle.mi_hall.proofs.RowCalls.{row_known}
use Rattle.mi_hall.proofs.passes.Pass.next_work.Goals as goal

pub work_row-work-requires-clause-known : goal.work_row-work-requires-clause-known
work_row-work-requires-clause-known g c = let e = c.take_board-board.ensures in row_known _ _ _ _ _ _ _ _ c.self.invariant.0 e.took e.told

pub work_row-work-requires-clause-free : goal.work_row-work-requires-clause-free
work_row-work-requires-clause-free g c = let e = c.take_board-board.ensures in works_free _ _ _ _ _ _ _ _ c.self.invariant.0 e.took e.told _ _ c.self.view_is c.requires.free c.requires.idle

pub work_row-work-requires-clause-cells : goal.work_row-work-requires-clause-cells
work_row-work-requires-clause-cells g c = let e = c.take_board-board.ensures in works_fits _ _ _ _ _ _ _ _ c.self.invariant.0 e.took e.told _ _ c.self.view_is c.requires.free c.requires.idle

pub give_board-requires-clause-last : goal.give_board-requires-clause-last
give_board-requires-clause-last g c = (_, c.take_board-board.ensures.last)

pub give_board-requires-clause-does : goal.give_board-requires-clause-does
give_board-requires-clause-does g c = let e = c.take_board-board.ensures in
    works_does _ _ _ _ _ _ _ _ c.self.invariant.0 e.took e.told _ _ c.self.view_is c.requires.free c.requires.idle _ _ c.work_row-work.result c.work_row-work.ensures e.last

pub invariant_of-self : goal.invariant_of-self
invariant_of-self g c =
    let e = c.take_board-board.ensures in
    let d = c.work_row-work in
    let keeps = works_keep c.self.inside.actor c.take_board-board.result d.new.board c.self.inside.row d.new.row d.result d.ensures in (
      given_pass _ _ _ _ _ _ _ _ _ _ _ c.self.invariant.0 e.took c.give_board.ensures.gave keeps.0.shard,
      board_near _ _ _ _ _ _ _ _ _ _ _ _ c.self.invariant.0.live e.took e.told c.give_board.ensures.gave keeps.0.root c.args.latches.now.words c.self.view_is c.requires.table (c.give_board.ensures.table.0 ∙ e.table.0) c.self.invariant.1,
      works_cells _ _ _ _ _ _ _ _ c.self.invariant.0 e.took e.told _ _ c.self.view_is c.requires.free c.requires.idle _ _ d.result d.ensures _ c.give_board.ensures.gave,
      word_stays _ _ _ _ (c.give_board.ensures.table.0 ∙ e.table.0) keeps.1 c.self.invariant.3,
      given_at _ _ _ c.give_board.ensures.gave c.give_board.ensures.at,
      kept_gone _ _ _ c.give_board.ensures.gave (kept_gone _ _ _ e.took c.self.invariant.5),
    )

pub returns-clause-told : goal.returns-clause-told
returns-clause-told g c = let e = c.take_board-board.ensures in
    works_told _ _ _ _ _ _ _ _ c.self.invariant.0 e.took e.told _ _ c.self.view_is c.requires.free c.requires.idle _ _ _ c.give_board.ensures.gave c.work_row-work.result c.work_row-work.ensures
