use Rattle.mi_solo.specs.BoardRows.{PublishesRow}
use Rattle.mi_solo.proofs.BoardTurns.{on_the_board, publishes_keep}
use Rattle.mi_solo.proofs.PublishSections.{split_enters}
use Rattle.mi_solo.proofs.cores.Core.publish.Goals as goal

pub publish_row-requires : goal.publish_row-requires
publish_row-requires c = split_enters c.args.self.now c.args.actor c.requires.going.known c.requires.kept c.index_mut-me.result.now c.index_mut-me.ensures.value c.requires.whole c.requires.copied

pub returns : goal.returns
returns c =
    let s = c.args.self.now in
    let x = c.publish_row in
    on_the_board s c.args.actor c.requires.going.known c.index_mut-me.result.now c.index_mut-me.ensures.value (PublishesRow c.args.actor x.result) x.new.board x.new.row
    (publishes_keep c.args.actor s.board x.new.board _ _ x.result x.ensures).0 x.ensures
