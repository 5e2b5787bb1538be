use Rattle.mi_hall.proofs.AbsorbedLemmas.{kept_gone}
use Rattle.mi_hall.proofs.DepartCall.{actor_known, depart_cells, depart_does, depart_gone, depart_told}
use Rattle.mi_hall.proofs.PassLemmas.{given_at, given_pass, word_stays}
use Rattle.mi_hall.proofs.NamedPages.{board_near}
use Rattle.mi_board.specs.Boards.{BoardState}
use Rattle.std.proofs.Common.{ap, ◌∙◌}
use Rattle.mi_solo.specs.declared.rows.ActorRow.{ActorRow}
use Rattle.mi_hall.proofs.passes.Pass.depart.Goals as goal

pub depart-requires : goal.depart-requires
depart-requires g c = let e = c.take_board-board.ensures in actor_known _ _ _ _ _ _ _ _ c.self.invariant.0 e.took e.told

pub give_board-requires-clause-last : goal.give_board-requires-clause-last
give_board-requires-clause-last g c = (_, c.take_board-board.ensures.last)

pub give_board-requires-clause-does : goal.give_board-requires-clause-does
give_board-requires-clause-does g c = let e = c.take_board-board.ensures in depart_does _ _ _ _ _ _ _ _ c.self.invariant.0 e.took e.told _ _ c.depart.ensures c.see.ensures e.last

pub invariant_of-self : goal.invariant_of-self
invariant_of-self g c =
    let e = c.take_board-board.ensures in (
      given_pass _ _ _ _ _ _ _ _ _ _ _ c.self.invariant.0 e.took c.give_board.ensures.gave (ap (λ (z : ActorRow). z.shard) c.see.ensures),
      board_near _ _ _ _ _ _ _ _ _ _ _ _ c.self.invariant.0.live e.took e.told c.give_board.ensures.gave (ap (λ (z : BoardState). z.root) c.depart.ensures) c.args.latches.now.words c.self.view_is c.requires.table (c.give_board.ensures.table.0 ∙ e.table.0) c.self.invariant.1,
      depart_cells _ _ _ _ _ _ _ _ c.self.invariant.0 e.took e.told _ _ c.depart.ensures c.see.ensures _ c.give_board.ensures.gave,
      word_stays _ _ _ _ (c.give_board.ensures.table.0 ∙ e.table.0) (ap (λ (z : ActorRow). z.hand.fresh) c.see.ensures) c.self.invariant.3,
      given_at _ _ _ c.give_board.ensures.gave c.give_board.ensures.at,
      kept_gone _ _ _ c.give_board.ensures.gave (kept_gone _ _ _ e.took c.self.invariant.5),
    )

pub returns-clause-told : goal.returns-clause-told
returns-clause-told g c = let e = c.take_board-board.ensures in depart_told _ _ _ _ _ _ _ _ c.self.invariant.0 e.took e.told _ _ c.depart.ensures c.see.ensures _ _ c.self.view_is _ c.give_board.ensures.gave

pub returns-clause-gone : goal.returns-clause-gone
returns-clause-gone g c = let e = c.take_board-board.ensures in depart_gone _ _ _ _ _ _ _ _ c.self.invariant.0 e.took e.told _ _ c.depart.ensures c.see.ensures _ c.give_board.ensures.gave
