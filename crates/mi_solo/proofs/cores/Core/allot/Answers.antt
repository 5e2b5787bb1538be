use Rattle.mi_solo.specs.BoardRows.{AllotsRow}
use Rattle.mi_solo.proofs.BoardTurns.{allots_keep, on_the_board}
use Rattle.mi_solo.proofs.cores.Core.allot.Goals as goal

pub returns : goal.returns
returns c =
    let s = c.args.self.now in
    let x = c.allot_row in
    on_the_board s c.args.actor c.requires.going.known c.index_mut-me.result.now c.index_mut-me.ensures.value (AllotsRow x.result) x.new.board x.new.row
    (allots_keep s.board x.new.board _ _ x.result x.ensures) x.ensures
