use Rattle.std.proofs.Common.{◌∙◌}
use Rattle.mi_solo.proofs.BoardTurns.{publishes_keep}
use Rattle.mi_hall.proofs.AbsorbedLemmas.{kept_gone}
use Rattle.mi_hall.proofs.NamedPages.{board_near}
use Rattle.mi_hall.proofs.PassLemmas.{given_at, given_pass, word_stays}
use Rattle.mi_hall.proofs.PublishCall.{publish_enters, publishes_cells, publishes_does, publishes_told}
use Rattle.mi_hall.proofs.passes.Pass.publish.Goals as goal

pub publish_row-result-requires : goal.publish_row-result-requires
publish_row-result-requires g c = let e = c.take_board-board.ensures in publish_enters _ _ _ _ _ _ _ _ c.self.invariant.0 e.took e.told _ _ c.self.view_is c.requires.leaf c.requires.all

pub give_board-requires-clause-last : goal.give_board-requires-clause-last
give_board-requires-clause-last g c = (_, c.take_board-board.ensures.last)

pub give_board-requires-clause-does : goal.give_board-requires-clause-does
give_board-requires-clause-does g c = let e = c.take_board-board.ensures in
    publishes_does _ _ _ _ _ _ _ _ c.self.invariant.0 e.took e.told _ _ c.self.view_is c.requires.leaf c.requires.all _ _ c.publish_row-result.result c.publish_row-result.ensures e.last

pub invariant_of-self : goal.invariant_of-self
invariant_of-self g c =
    let e = c.take_board-board.ensures in
    let d = c.publish_row-result in
    let keeps = publishes_keep c.self.inside.actor c.take_board-board.result d.new.board c.self.inside.row d.new.row d.result d.ensures in (
      given_pass _ _ _ _ _ _ _ _ _ _ _ c.self.invariant.0 e.took c.give_board.ensures.gave keeps.0.shard,
      board_near _ _ _ _ _ _ _ _ _ _ _ _ c.self.invariant.0.live e.took e.told c.give_board.ensures.gave keeps.0.root c.args.latches.now.words c.self.view_is c.requires.table (c.give_board.ensures.table.0 ∙ e.table.0) c.self.invariant.1,
      publishes_cells _ _ _ _ _ _ _ _ c.self.invariant.0 e.took e.told _ _ c.self.view_is c.requires.leaf c.requires.all _ _ d.result d.ensures _ c.give_board.ensures.gave,
      word_stays _ _ _ _ (c.give_board.ensures.table.0 ∙ e.table.0) keeps.1 c.self.invariant.3,
      given_at _ _ _ c.give_board.ensures.gave c.give_board.ensures.at,
      kept_gone _ _ _ c.give_board.ensures.gave (kept_gone _ _ _ e.took c.self.invariant.5),
    )

pub returns-clause-told : goal.returns-clause-told
returns-clause-told g c = let e = c.take_board-board.ensures in
    publishes_told _ _ _ _ _ _ _ _ c.self.invariant.0 e.took e.told _ _ c.self.view_is c.requires.leaf c.requires.all _ _ _ c.give_board.ensures.gave c.publish_row-result.result c.publish_row-result.ensures
