use Rattle.std.proofs.Common.{◌+◌, ◌∙◌, ap, false, subst, sym, true}
use Rattle.atomic_table.specs.Seated.{TableId}
use Rattle.mi_latch.specs.Views.{HoldsLast}
use Rattle.mi_world.specs.Boards.{Grew}
use Rattle.mi_world.specs.Pages.{IsChildAt}
use Rattle.mi_tree.specs.declared.answers.Look.{Look}
use Rattle.mi_hall.specs.Passes.{AreNear, HasWord, PassState}
use Rattle.mi_hall.specs.Roots.{GrowsRow}
use Rattle.mi_hall.specs.Seats.{seat_view}
use Rattle.mi_hall.proofs.AbsorbedLemmas.{kept_gone}
use Rattle.mi_hall.proofs.GrowCall.{root_cells, root_does, root_ends, root_last, root_near, root_pass, root_returns, root_told, same_cells, same_does, same_ends, same_near, same_pass, same_told, taken, vacant_last}
use Rattle.mi_hall.proofs.PassLemmas.{given_at, told_of, word_stays}
use Rattle.mi_hall.proofs.SplitCall.{fresh_before}
use Rattle.mi_hall.proofs.passes.Pass.grow.Goals as goal

pub take_fresh-vacant-requires-clause-table : goal.take_fresh-vacant-requires-clause-table
take_fresh-vacant-requires-clause-table g c =
    let fr = sym c.fresh_number.ensures ∙ c.in-Some.is in
    let x = fresh_before c.self.inside.seat.me c.self.inside.seat.table_id c.args.latches.now.table.shared.table_id c.args.self.now c.self.inside.row _ c.in-Some.fresh c.args.latches.now.words c.self.invariant.3 c.self.view_is c.requires.table fr in
    x

pub give_board-requires-clause-last : goal.give_board-requires-clause-last
give_board-requires-clause-last g c =
    (_, c.take_board-board.ensures.last)

pub give_board-requires-clause-does : goal.give_board-requires-clause-does
give_board-requires-clause-does g c =
    let fr = sym c.fresh_number.ensures ∙ c.in-Some.is in
    let e = c.take_fresh-vacant.ensures in
    let d = c.take_board-board.ensures in
    let t = taken _ c.self.inside.seat.me c.take_fresh-vacant.new.seat.me c.take_board-board.new.seat.me c.in-Some.fresh _ c.self.inside.row _ _ c.take_board-board.result c.take_fresh-vacant.result c.self.invariant.0 fr e.took e.told e.last d.took d.told in
    let child = subst (λ (z : PassState). IsChildAt (seat_view z.sight) c.args.level c.args.key c.args.child) (sym c.self.view_is) c.requires.route in
    let gd = subst (λ o. GrowsRow c.in-Some.fresh c.args.level c.args.key c.args.child c.take_board-board.result c.self.inside.row o c.grow_row.new.board c.grow_row.new.row) c.in_default-grow_row.is c.grow_row.ensures in
    same_does _ c.self.inside.seat.me c.in-Some.fresh c.take_board-board.result _ c.self.inside.row _ _ c.self.invariant.0 fr t.found t.apart c.args.level c.args.key c.args.child child c.grow_row.new.row c.grow_row.new.board gd c.take_board-board.new.seat.me t.is d.last

pub give_vacant-requires-clause-table : goal.give_vacant-requires-clause-table
give_vacant-requires-clause-table g c =
    let fr = sym c.fresh_number.ensures ∙ c.in-Some.is in
    let x = fresh_before c.self.inside.seat.me c.self.inside.seat.table_id c.args.latches.now.table.shared.table_id c.args.self.now c.self.inside.row _ c.in-Some.fresh c.args.latches.now.words c.self.invariant.3 c.self.view_is c.requires.table fr in
    (c.give_board.ensures.table.0 ∙ c.take_board-board.ensures.table.0 ∙ c.take_fresh-vacant.ensures.table.0 ∙ x.0, x.1)

pub give_vacant-requires-clause-last : goal.give_vacant-requires-clause-last
give_vacant-requires-clause-last g c =
    let fr = sym c.fresh_number.ensures ∙ c.in-Some.is in
    let e = c.take_fresh-vacant.ensures in
    let d = c.take_board-board.ensures in
    let t = taken _ c.self.inside.seat.me c.take_fresh-vacant.new.seat.me c.take_board-board.new.seat.me c.in-Some.fresh _ c.self.inside.row _ _ c.take_board-board.result c.take_fresh-vacant.result c.self.invariant.0 fr e.took e.told e.last d.took d.told in
    let child = subst (λ (z : PassState). IsChildAt (seat_view z.sight) c.args.level c.args.key c.args.child) (sym c.self.view_is) c.requires.route in
    let gd = subst (λ o. GrowsRow c.in-Some.fresh c.args.level c.args.key c.args.child c.take_board-board.result c.self.inside.row o c.grow_row.new.board c.grow_row.new.row) c.in_default-grow_row.is c.grow_row.ensures in
    subst (HoldsLast c.give_board.new.seat.me (c.in-Some.fresh + 17)) (sym t.empty) (vacant_last _ c.self.inside.seat.me c.in-Some.fresh c.take_board-board.result _ c.self.inside.row _ _ c.self.invariant.0 fr t.found t.apart c.args.level c.args.key c.args.child child c.grow_row.new.row c.grow_row.new.board gd c.take_board-board.new.seat.me c.give_board.new.seat.me t.is c.give_board.ensures.gave)

pub invariant_of-self : goal.invariant_of-self
invariant_of-self g c =
    let fr = sym c.fresh_number.ensures ∙ c.in-Some.is in
    let e = c.take_fresh-vacant.ensures in
    let d = c.take_board-board.ensures in
    let t = taken _ c.self.inside.seat.me c.take_fresh-vacant.new.seat.me c.take_board-board.new.seat.me c.in-Some.fresh _ c.self.inside.row _ _ c.take_board-board.result c.take_fresh-vacant.result c.self.invariant.0 fr e.took e.told e.last d.took d.told in
    let child = subst (λ (z : PassState). IsChildAt (seat_view z.sight) c.args.level c.args.key c.args.child) (sym c.self.view_is) c.requires.route in
    let gd = subst (λ o. GrowsRow c.in-Some.fresh c.args.level c.args.key c.args.child c.take_board-board.result c.self.inside.row o c.grow_row.new.board c.grow_row.new.row) c.in_default-grow_row.is c.grow_row.ensures in
    let x = fresh_before c.self.inside.seat.me c.self.inside.seat.table_id c.args.latches.now.table.shared.table_id c.args.self.now c.self.inside.row _ c.in-Some.fresh c.args.latches.now.words c.self.invariant.3 c.self.view_is c.requires.table fr in
    let ends = same_ends _ c.self.inside.seat.me c.in-Some.fresh c.take_board-board.result _ c.self.inside.row _ _ c.self.invariant.0 fr t.found t.apart c.args.level c.args.key c.args.child child c.grow_row.new.row c.grow_row.new.board gd c.take_board-board.new.seat.me c.give_board.new.seat.me c.give_vacant.new.seat.me t.is c.give_board.ensures.gave c.give_vacant.ensures.gave in (
      same_pass _ c.self.inside.seat.me c.in-Some.fresh c.take_board-board.result _ c.self.inside.row _ _ c.self.invariant.0 fr t.found t.apart c.args.level c.args.key c.args.child child c.grow_row.new.row c.grow_row.new.board gd c.give_vacant.new.seat.me ends,
      subst (λ (k : TableId). AreNear k.words c.give_vacant.new.seat.me.0.mine.named) (sym (c.give_vacant.ensures.table.0 ∙ c.give_board.ensures.table.0 ∙ d.table.0 ∙ e.table.0))
          (same_near _ c.self.inside.seat.me c.in-Some.fresh c.take_board-board.result _ c.self.inside.row _ _ c.self.invariant.0 fr t.found t.apart c.args.level c.args.key c.args.child child c.grow_row.new.row c.grow_row.new.board gd c.give_vacant.new.seat.me ends _ (ap (λ (k : TableId). k.words) x.0 ∙ c.args.latches.now.words) c.self.invariant.1),
      same_cells _ c.self.inside.seat.me c.in-Some.fresh c.take_board-board.result _ c.self.inside.row _ _ c.self.invariant.0 fr t.found t.apart c.args.level c.args.key c.args.child child c.grow_row.new.row c.grow_row.new.board gd c.give_vacant.new.seat.me ends,
      word_stays _ _ _ _ (c.give_vacant.ensures.table.0 ∙ c.give_board.ensures.table.0 ∙ d.table.0 ∙ e.table.0) (ap (λ z. z.hand.fresh) gd.2) c.self.invariant.3,
      given_at _ _ _ c.give_vacant.ensures.gave (given_at _ _ _ c.give_board.ensures.gave c.give_board.ensures.at),
      kept_gone _ _ _ c.give_vacant.ensures.gave (kept_gone _ _ _ c.give_board.ensures.gave (kept_gone _ _ _ d.took (kept_gone _ _ _ e.took c.self.invariant.5))),
    )

pub returns-in_default-grow_row-clause-told : goal.returns-in_default-grow_row-clause-told
returns-in_default-grow_row-clause-told g c =
    let fr = sym c.fresh_number.ensures ∙ c.in-Some.is in
    let e = c.take_fresh-vacant.ensures in
    let d = c.take_board-board.ensures in
    let t = taken _ c.self.inside.seat.me c.take_fresh-vacant.new.seat.me c.take_board-board.new.seat.me c.in-Some.fresh _ c.self.inside.row _ _ c.take_board-board.result c.take_fresh-vacant.result c.self.invariant.0 fr e.took e.told e.last d.took d.told in
    let child = subst (λ (z : PassState). IsChildAt (seat_view z.sight) c.args.level c.args.key c.args.child) (sym c.self.view_is) c.requires.route in
    let gd = subst (λ o. GrowsRow c.in-Some.fresh c.args.level c.args.key c.args.child c.take_board-board.result c.self.inside.row o c.grow_row.new.board c.grow_row.new.row) c.in_default-grow_row.is c.grow_row.ensures in
    let ends = same_ends _ c.self.inside.seat.me c.in-Some.fresh c.take_board-board.result _ c.self.inside.row _ _ c.self.invariant.0 fr t.found t.apart c.args.level c.args.key c.args.child child c.grow_row.new.row c.grow_row.new.board gd c.take_board-board.new.seat.me c.give_board.new.seat.me c.give_vacant.new.seat.me t.is c.give_board.ensures.gave c.give_vacant.ensures.gave in
    told_of (λ v w. Grew v w c.args.level c.args.child false) c.self.inside.seat.me.0 c.give_vacant.new.seat.me.0 _ _ c.self.view_is (same_told _ c.self.inside.seat.me c.in-Some.fresh c.take_board-board.result _ c.self.inside.row _ _ c.self.invariant.0 fr t.found t.apart c.args.level c.args.key c.args.child child c.grow_row.new.row c.grow_row.new.board gd c.give_vacant.new.seat.me ends)

pub give_raised-requires-clause-last : goal.give_raised-requires-clause-last
give_raised-requires-clause-last g c =
    (_, c.take_board-board.ensures.last)

pub give_raised-requires-clause-returns : goal.give_raised-requires-clause-returns
give_raised-requires-clause-returns g c =
    let fr = sym c.fresh_number.ensures ∙ c.in-Some.is in
    let e = c.take_fresh-vacant.ensures in
    let d = c.take_board-board.ensures in
    let t = taken _ c.self.inside.seat.me c.take_fresh-vacant.new.seat.me c.take_board-board.new.seat.me c.in-Some.fresh _ c.self.inside.row _ _ c.take_board-board.result c.take_fresh-vacant.result c.self.invariant.0 fr e.took e.told e.last d.took d.told in
    let child = subst (λ (z : PassState). IsChildAt (seat_view z.sight) c.args.level c.args.key c.args.child) (sym c.self.view_is) c.requires.route in
    let gd = subst (λ o. GrowsRow c.in-Some.fresh c.args.level c.args.key c.args.child c.take_board-board.result c.self.inside.row o c.grow_row.new.board c.grow_row.new.row) c.in-Some-grow_row.is c.grow_row.ensures in
    root_returns _ c.self.inside.seat.me c.in-Some.fresh c.take_board-board.result _ c.self.inside.row _ _ c.self.invariant.0 fr t.found t.apart c.args.level c.args.key c.args.child child c.in-Some-grow_row.root c.grow_row.new.row c.grow_row.new.board gd c.take_board-board.new.seat.me t.is d.last

pub give_raised-requires-clause-does : goal.give_raised-requires-clause-does
give_raised-requires-clause-does g c =
    let fr = sym c.fresh_number.ensures ∙ c.in-Some.is in
    let e = c.take_fresh-vacant.ensures in
    let d = c.take_board-board.ensures in
    let t = taken _ c.self.inside.seat.me c.take_fresh-vacant.new.seat.me c.take_board-board.new.seat.me c.in-Some.fresh _ c.self.inside.row _ _ c.take_board-board.result c.take_fresh-vacant.result c.self.invariant.0 fr e.took e.told e.last d.took d.told in
    let child = subst (λ (z : PassState). IsChildAt (seat_view z.sight) c.args.level c.args.key c.args.child) (sym c.self.view_is) c.requires.route in
    let gd = subst (λ o. GrowsRow c.in-Some.fresh c.args.level c.args.key c.args.child c.take_board-board.result c.self.inside.row o c.grow_row.new.board c.grow_row.new.row) c.in-Some-grow_row.is c.grow_row.ensures in
    root_does _ c.self.inside.seat.me c.in-Some.fresh c.take_board-board.result _ c.self.inside.row _ _ c.self.invariant.0 fr t.found t.apart c.args.level c.args.key c.args.child child c.in-Some-grow_row.root c.grow_row.new.row c.grow_row.new.board gd c.take_board-board.new.seat.me t.is d.last

pub give_page_back-requires-clause-table : goal.give_page_back-requires-clause-table
give_page_back-requires-clause-table g c =
    let fr = sym c.fresh_number.ensures ∙ c.in-Some.is in
    let x = fresh_before c.self.inside.seat.me c.self.inside.seat.table_id c.args.latches.now.table.shared.table_id c.args.self.now c.self.inside.row _ c.in-Some.fresh c.args.latches.now.words c.self.invariant.3 c.self.view_is c.requires.table fr in
    (c.give_raised.ensures.table.0 ∙ c.take_board-board.ensures.table.0 ∙ c.take_fresh-vacant.ensures.table.0 ∙ x.0, x.1)

pub give_page_back-requires-clause-last : goal.give_page_back-requires-clause-last
give_page_back-requires-clause-last g c =
    let fr = sym c.fresh_number.ensures ∙ c.in-Some.is in
    let e = c.take_fresh-vacant.ensures in
    let d = c.take_board-board.ensures in
    let t = taken _ c.self.inside.seat.me c.take_fresh-vacant.new.seat.me c.take_board-board.new.seat.me c.in-Some.fresh _ c.self.inside.row _ _ c.take_board-board.result c.take_fresh-vacant.result c.self.invariant.0 fr e.took e.told e.last d.took d.told in
    let child = subst (λ (z : PassState). IsChildAt (seat_view z.sight) c.args.level c.args.key c.args.child) (sym c.self.view_is) c.requires.route in
    let gd = subst (λ o. GrowsRow c.in-Some.fresh c.args.level c.args.key c.args.child c.take_board-board.result c.self.inside.row o c.grow_row.new.board c.grow_row.new.row) c.in-Some-grow_row.is c.grow_row.ensures in
    root_last _ c.self.inside.seat.me c.in-Some.fresh c.take_board-board.result _ c.self.inside.row _ _ c.self.invariant.0 fr t.found t.apart c.args.level c.args.key c.args.child child c.in-Some-grow_row.root c.grow_row.new.row c.grow_row.new.board gd c.take_board-board.new.seat.me t.is d.last c.give_raised.new.seat.me c.give_raised.ensures.gave

pub invariant_of-self-2 : goal.invariant_of-self-2
invariant_of-self-2 g c =
    let fr = sym c.fresh_number.ensures ∙ c.in-Some.is in
    let e = c.take_fresh-vacant.ensures in
    let d = c.take_board-board.ensures in
    let t = taken _ c.self.inside.seat.me c.take_fresh-vacant.new.seat.me c.take_board-board.new.seat.me c.in-Some.fresh _ c.self.inside.row _ _ c.take_board-board.result c.take_fresh-vacant.result c.self.invariant.0 fr e.took e.told e.last d.took d.told in
    let child = subst (λ (z : PassState). IsChildAt (seat_view z.sight) c.args.level c.args.key c.args.child) (sym c.self.view_is) c.requires.route in
    let gd = subst (λ o. GrowsRow c.in-Some.fresh c.args.level c.args.key c.args.child c.take_board-board.result c.self.inside.row o c.grow_row.new.board c.grow_row.new.row) c.in-Some-grow_row.is c.grow_row.ensures in
    let ends = root_ends _ c.self.inside.seat.me c.in-Some.fresh c.take_board-board.result _ c.self.inside.row _ _ c.self.invariant.0 fr t.found t.apart c.args.level c.args.key c.args.child child c.in-Some-grow_row.root c.grow_row.new.row c.grow_row.new.board gd c.take_board-board.new.seat.me t.is d.last c.give_raised.new.seat.me c.give_page_back.new.seat.me c.give_raised.ensures.gave c.give_page_back.ensures.gave in (
      root_pass _ c.self.inside.seat.me c.in-Some.fresh c.take_board-board.result _ c.self.inside.row _ _ c.self.invariant.0 fr t.found t.apart c.args.level c.args.key c.args.child child c.in-Some-grow_row.root c.grow_row.new.row c.grow_row.new.board gd c.give_page_back.new.seat.me ends,
      subst (λ (k : TableId). AreNear k.words c.give_page_back.new.seat.me.0.mine.named) (sym (c.give_page_back.ensures.table.0 ∙ c.give_raised.ensures.table.0 ∙ d.table.0 ∙ e.table.0))
          (root_near _ c.self.inside.seat.me c.in-Some.fresh c.take_board-board.result _ c.self.inside.row _ _ c.self.invariant.0 fr t.found t.apart c.args.level c.args.key c.args.child child c.in-Some-grow_row.root c.grow_row.new.row c.grow_row.new.board gd c.give_page_back.new.seat.me ends _ c.self.invariant.1),
      root_cells _ c.self.inside.seat.me c.in-Some.fresh c.take_board-board.result _ c.self.inside.row _ _ c.self.invariant.0 fr t.found t.apart c.args.level c.args.key c.args.child child c.in-Some-grow_row.root c.grow_row.new.row c.grow_row.new.board gd c.give_page_back.new.seat.me ends,
      subst (HasWord c.give_page_back.new.seat.table_id.words) (sym (ap (λ z. z.hand.fresh) gd.3)) tt,
      given_at _ _ _ c.give_page_back.ensures.gave (given_at _ _ _ c.give_raised.ensures.gave (ap (λ (z : Look). z.at) c.look.ensures)),
      kept_gone _ _ _ c.give_page_back.ensures.gave (kept_gone _ _ _ c.give_raised.ensures.gave (kept_gone _ _ _ d.took (kept_gone _ _ _ e.took c.self.invariant.5))),
    )

pub returns-clause-told : goal.returns-clause-told
returns-clause-told g c =
    let fr = sym c.fresh_number.ensures ∙ c.in-Some.is in
    let e = c.take_fresh-vacant.ensures in
    let d = c.take_board-board.ensures in
    let t = taken _ c.self.inside.seat.me c.take_fresh-vacant.new.seat.me c.take_board-board.new.seat.me c.in-Some.fresh _ c.self.inside.row _ _ c.take_board-board.result c.take_fresh-vacant.result c.self.invariant.0 fr e.took e.told e.last d.took d.told in
    let child = subst (λ (z : PassState). IsChildAt (seat_view z.sight) c.args.level c.args.key c.args.child) (sym c.self.view_is) c.requires.route in
    let gd = subst (λ o. GrowsRow c.in-Some.fresh c.args.level c.args.key c.args.child c.take_board-board.result c.self.inside.row o c.grow_row.new.board c.grow_row.new.row) c.in-Some-grow_row.is c.grow_row.ensures in
    let ends = root_ends _ c.self.inside.seat.me c.in-Some.fresh c.take_board-board.result _ c.self.inside.row _ _ c.self.invariant.0 fr t.found t.apart c.args.level c.args.key c.args.child child c.in-Some-grow_row.root c.grow_row.new.row c.grow_row.new.board gd c.take_board-board.new.seat.me t.is d.last c.give_raised.new.seat.me c.give_page_back.new.seat.me c.give_raised.ensures.gave c.give_page_back.ensures.gave in
    told_of (λ v w. Grew v w c.args.level c.args.child true) c.self.inside.seat.me.0 c.give_page_back.new.seat.me.0 _ _ c.self.view_is (root_told _ c.self.inside.seat.me c.in-Some.fresh c.take_board-board.result _ c.self.inside.row _ _ c.self.invariant.0 fr t.found t.apart c.args.level c.args.key c.args.child child c.in-Some-grow_row.root c.grow_row.new.row c.grow_row.new.board gd c.give_page_back.new.seat.me ends)
