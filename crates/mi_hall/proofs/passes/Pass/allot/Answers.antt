use Rattle.mi_hall.proofs.AbsorbedLemmas.{kept_gone}
use Rattle.mi_hall.proofs.AllotCall.{allots_cells, allots_does, allots_told, allots_word}
use Rattle.std.proofs.Common.{◌∙◌, ap, subst, sym}
use Rattle.atomic_table.specs.Table.{rest}
use Rattle.mi_latch.specs.declared.slots.Slot.TheVariants.{OfBoard}
use Rattle.mi_latch.specs.Views.{Doing, Seated}
use Rattle.mi_solo.proofs.BoardTurns.{allots_keep}
use Rattle.mi_hall.specs.Passes.{giving}
use Rattle.mi_hall.proofs.NamedPages.{board_near}
use Rattle.mi_hall.proofs.PassLemmas.{given_at, given_pass}
use Rattle.mi_hall.proofs.passes.Pass.allot.Goals as goal

pub give_board-requires-clause-last : goal.give_board-requires-clause-last
give_board-requires-clause-last g c = (_, c.take_board-board.ensures.last)

pub give_board-requires-clause-does : goal.give_board-requires-clause-does
give_board-requires-clause-does g c =
    let e = c.take_board-board.ensures in
    let d = c.allot_row-result in
    let m = c.take_board-board.new.seat.me in
    subst (λ says. Doing c.args.latches.now.table.shared.key m.0 (giving m.0 d.new.row d.new.board says (rest m.0.out)) 0 (OfBoard d.new.board)) (sym c.told_by-self-inside.ensures) (allots_does _ _ _ _ _ _ _ _ c.self.invariant.0 e.took e.told _ _ c.self.view_is c.requires.free d.new.row d.new.board d.result d.ensures e.last)

pub invariant_of-self : goal.invariant_of-self
invariant_of-self g c =
    let e = c.take_board-board.ensures in
    let d = c.allot_row-result in
    let m = c.take_board-board.new.seat.me in
    let gave = c.give_board.ensures.gave ∙ ap (λ says. let y : Seated = (giving m.0 d.new.row d.new.board says (rest m.0.out), rest m.1) in y) c.told_by-self-inside.ensures in
    let keeps = allots_keep c.take_board-board.result d.new.board c.self.inside.row d.new.row d.result d.ensures in (
      given_pass _ _ _ _ _ _ _ _ _ _ _ c.self.invariant.0 e.took c.give_board.ensures.gave keeps.shard,
      board_near _ _ _ _ _ _ _ _ _ _ _ _ c.self.invariant.0.live e.took e.told c.give_board.ensures.gave keeps.root c.args.latches.now.words c.self.view_is c.requires.table (c.give_board.ensures.table.0 ∙ e.table.0) c.self.invariant.1,
      allots_cells _ _ _ _ _ _ _ _ c.self.invariant.0 e.took e.told _ _ c.self.view_is c.requires.free d.new.row d.new.board d.result d.ensures _ gave,
      allots_word _ _ _ _ _ _ _ _ c.self.invariant.0 e.took e.told _ _ c.self.view_is c.requires.free _ _ c.args.latches.now.words c.requires.table (c.give_board.ensures.table.0 ∙ e.table.0) c.self.invariant.3 d.new.row d.new.board d.result d.ensures,
      given_at _ _ _ c.give_board.ensures.gave c.give_board.ensures.at,
      kept_gone _ _ _ c.give_board.ensures.gave (kept_gone _ _ _ e.took c.self.invariant.5),
    )

pub returns-clause-told : goal.returns-clause-told
returns-clause-told g c =
    let e = c.take_board-board.ensures in
    let d = c.allot_row-result in
    let m = c.take_board-board.new.seat.me in
    let gave = c.give_board.ensures.gave ∙ ap (λ says. let y : Seated = (giving m.0 d.new.row d.new.board says (rest m.0.out), rest m.1) in y) c.told_by-self-inside.ensures in
    allots_told _ _ _ _ _ _ _ _ c.self.invariant.0 e.took e.told _ _ c.self.view_is c.requires.free d.new.row d.new.board _ d.result d.ensures gave
