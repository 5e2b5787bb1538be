use Rattle.std.proofs.Common.{ap, ◌∙◌}
use Rattle.mi_core.specs.Actors.{pinned_at}
use Rattle.mi_solo.specs.BoardRows.{PinsRow}
use Rattle.mi_solo.proofs.BoardTurns.{on_the_board, pins_keep}
use Rattle.mi_solo.proofs.CoreLemmas.{on_board, suits}
use Rattle.mi_solo.proofs.cores.Core.pin.Goals as goal

pub pin_row-requires-clause-known : goal.pin_row-requires-clause-known
pin_row-requires-clause-known g c = on_board c.args.self.now c.args.actor c.requires.going.known c.requires.kept

pub pin_row-requires-clause-free : goal.pin_row-requires-clause-free
pin_row-requires-clause-free g c = (suits c.args.self.now c.args.actor c.requires.going.known c.requires.kept).holds.pin ∙ ap pinned_at c.requires.free

pub returns : goal.returns
returns g c =
    let s = c.args.self.now in
    let x = c.pin_row in
    on_the_board s c.args.actor c.requires.going.known c.index_mut-me.result.now c.index_mut-me.ensures.value (PinsRow c.args.actor x.result) x.new.board x.new.row
    (pins_keep c.args.actor s.board x.new.board _ _ x.result x.ensures).0 x.ensures
