use Rattle.std.proofs.Common.{◌∙◌}
use Rattle.mi_solo.specs.BoardRows.{WorksRow}
use Rattle.mi_solo.proofs.BoardTurns.{on_the_board, works_keep}
use Rattle.mi_solo.proofs.CoreLemmas.{on_board, suits}
use Rattle.mi_solo.proofs.WorkSections.{retired_fits}
use Rattle.mi_solo.proofs.cores.Core.next_work.Goals as goal

pub work_row-requires-clause-known : goal.work_row-requires-clause-known
work_row-requires-clause-known c = on_board c.args.self.now c.args.actor c.requires.going.known c.requires.kept

pub work_row-requires-clause-free : goal.work_row-requires-clause-free
work_row-requires-clause-free c = (suits c.args.self.now c.args.actor c.requires.going.known c.requires.kept).holds.claim ∙ c.requires.free

pub work_row-requires-clause-cells : goal.work_row-requires-clause-cells
work_row-requires-clause-cells c = retired_fits c.args.self.now c.requires.kept

pub returns : goal.returns
returns c =
    let s = c.args.self.now in
    on_the_board s c.args.actor c.requires.going.known c.index_mut-me.result.now c.index_mut-me.ensures.value (WorksRow c.args.actor c.work_row.result) c.work_row.new.board c.work_row.new.row
    (works_keep c.args.actor s.board c.work_row.new.board _ _ c.work_row.result c.work_row.ensures).0 c.work_row.ensures
