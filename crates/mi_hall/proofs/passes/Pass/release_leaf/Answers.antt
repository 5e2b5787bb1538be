use Rattle.std.proofs.Common.{◌∙◌, ap}
use Rattle.mi_hall.proofs.AbsorbedLemmas.{kept_gone}
use Rattle.mi_hall.proofs.NamedPages.{board_near}
use Rattle.mi_hall.proofs.PassLemmas.{given_at, given_pass, word_stays}
use Rattle.mi_hall.proofs.ReleaseLeafCall.{release_cells, release_claims, release_does, release_told}
use Rattle.mi_hall.proofs.RowCalls.{row_known}
use Rattle.mi_hall.proofs.passes.Pass.release_leaf.Goals as goal

pub release_leaf-requires-clause-known : goal.release_leaf-requires-clause-known
release_leaf-requires-clause-known g c = let e = c.take_board-board.ensures in row_known _ _ _ _ _ _ _ _ c.self.invariant.0 e.took e.told

pub release_leaf-requires-clause-claims : goal.release_leaf-requires-clause-claims
release_leaf-requires-clause-claims g c = let e = c.take_board-board.ensures in release_claims _ _ _ _ _ _ _ _ c.self.invariant.0 e.took e.told _ _ c.self.view_is c.requires.claimed c.requires.whole

pub give_board-requires-clause-last : goal.give_board-requires-clause-last
give_board-requires-clause-last g c = (_, c.take_board-board.ensures.last)

pub give_board-requires-clause-does : goal.give_board-requires-clause-does
give_board-requires-clause-does g c = let e = c.take_board-board.ensures in release_does _ _ _ _ _ _ _ _ c.self.invariant.0 e.took e.told _ _ c.self.view_is c.requires.claimed c.requires.whole _ _ c.release_leaf.ensures c.leave_leaf.ensures e.last

pub invariant_of-self : goal.invariant_of-self
invariant_of-self g c =
    let e = c.take_board-board.ensures in (
      given_pass _ _ _ _ _ _ _ _ _ _ _ c.self.invariant.0 e.took c.give_board.ensures.gave (ap (λ z. z.shard) c.leave_leaf.ensures),
      board_near _ _ _ _ _ _ _ _ _ _ _ _ c.self.invariant.0.live e.took e.told c.give_board.ensures.gave (ap (λ z. z.root) c.release_leaf.ensures) c.args.latches.now.words c.self.view_is c.requires.table (c.give_board.ensures.table.0 ∙ e.table.0) c.self.invariant.1,
      release_cells _ _ _ _ _ _ _ _ c.self.invariant.0 e.took e.told _ _ c.self.view_is c.requires.claimed c.requires.whole _ _ c.release_leaf.ensures c.leave_leaf.ensures _ c.give_board.ensures.gave,
      word_stays _ _ _ _ (c.give_board.ensures.table.0 ∙ e.table.0) (ap (λ z. z.hand.fresh) c.leave_leaf.ensures) c.self.invariant.3,
      given_at _ _ _ c.give_board.ensures.gave c.give_board.ensures.at,
      kept_gone _ _ _ c.give_board.ensures.gave (kept_gone _ _ _ e.took c.self.invariant.5),
    )

pub returns-clause-told : goal.returns-clause-told
returns-clause-told g c = let e = c.take_board-board.ensures in release_told _ _ _ _ _ _ _ _ c.self.invariant.0 e.took e.told _ _ c.self.view_is c.requires.claimed c.requires.whole _ _ c.release_leaf.ensures c.leave_leaf.ensures _ c.give_board.ensures.gave
