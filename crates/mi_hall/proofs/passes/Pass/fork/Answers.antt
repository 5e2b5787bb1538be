use Rattle.std.proofs.Common.{◌∙◌, ◌<◌, ap, length, subst, sym, ℕ}
use Rattle.atomic_table.specs.Seated.{TableId}
use Rattle.atomic_table.specs.Table.{rest}
use Rattle.mi_base.specs.History.{end_of}
use Rattle.mi_board.specs.Boards.{BoardState}
use Rattle.mi_latch.specs.declared.slots.Slot.TheVariants.{OfBoard}
use Rattle.mi_latch.specs.Views.{Doing, Seated}
use Rattle.mi_solo.specs.declared.rows.ActorRow.{ActorRow}
use Rattle.mi_tree.specs.declared.answers.Look.{Look}
use Rattle.mi_world.specs.Families.{Forked}
use Rattle.mi_hall.specs.Passes.{AreNear, giving}
use Rattle.mi_hall.specs.Seats.{seat_view}
use Rattle.mi_hall.proofs.AbsorbedLemmas.{kept_gone}
use Rattle.mi_hall.proofs.DepartCall.{not_fork_told, see_cells, see_does}
use Rattle.mi_hall.proofs.FamilyPasses.{child_at, child_cells, child_gone, child_near, child_pass, fork_does, fork_notes, fork_returns, fork_told, made_word, maker_at, maker_cells, maker_gone, maker_near, maker_pass}
use Rattle.mi_hall.proofs.NamedPages.{board_near}
use Rattle.mi_hall.proofs.PassLemmas.{given_at, given_pass, pass_rows, told_of, word_stays}
use Rattle.mi_hall.proofs.passes.Pass.fork.Goals as goal

pub give_board-requires-clause-last : goal.give_board-requires-clause-last
give_board-requires-clause-last g c = (_, c.take_board-board.ensures.last)

pub give_board-requires-clause-does : goal.give_board-requires-clause-does
give_board-requires-clause-does g c =
    let e = c.take_board-board.ensures in
    let m : Seated = c.take_board-board.new.seat.me in
    let b : BoardState = c.take_board-board.result in
    let row : ActorRow = c.see.new.self in
    let made = c.see.ensures ∙ ap (λ (z : BoardState). record c.self.inside.row { seen = length z.log }) c.in_default.ensures in
    subst (λ (z : BoardState). Doing c.args.latches.now.table.shared.key m.0 (giving m.0 row z c.self.inside.told (rest m.0.out)) 0 (OfBoard z)) (sym c.in_default.ensures)
    (see_does _ _ _ _ _ _ _ _ c.self.invariant.0 e.took e.told row made e.last)

pub invariant_of-self : goal.invariant_of-self
invariant_of-self g c =
    let e = c.take_board-board.ensures in
    let m : Seated = c.take_board-board.new.seat.me in
    let row : ActorRow = c.see.new.self in
    let made = c.see.ensures ∙ ap (λ (z : BoardState). record c.self.inside.row { seen = length z.log }) c.in_default.ensures in
    let gave = c.give_board.ensures.gave ∙ ap (λ (z : BoardState). let x : Seated = (giving m.0 row z c.self.inside.told (rest m.0.out), rest m.1) in x) c.in_default.ensures in (
      given_pass _ _ _ _ _ _ _ _ _ _ _ c.self.invariant.0 e.took c.give_board.ensures.gave (ap (λ (z : ActorRow). z.shard) c.see.ensures),
      board_near _ _ _ _ _ _ _ _ _ _ _ _ c.self.invariant.0.live e.took e.told c.give_board.ensures.gave (ap (λ (z : BoardState). z.root) c.in_default.ensures) c.args.latches.now.words c.self.view_is c.requires.table (c.give_board.ensures.table.0 ∙ e.table.0) c.self.invariant.1,
      see_cells _ _ _ _ _ _ _ _ c.self.invariant.0 e.took e.told row made _ gave,
      word_stays _ _ _ _ (c.give_board.ensures.table.0 ∙ e.table.0) (ap (λ (z : ActorRow). z.hand.fresh) c.see.ensures) c.self.invariant.3,
      given_at _ _ _ c.give_board.ensures.gave c.give_board.ensures.at,
      kept_gone _ _ _ c.give_board.ensures.gave (kept_gone _ _ _ e.took c.self.invariant.5),
    )

pub returns-in_default-clause-err : goal.returns-in_default-clause-err
returns-in_default-clause-err g c =
    let e = c.take_board-board.ensures in
    let m : Seated = c.take_board-board.new.seat.me in
    let row : ActorRow = c.see.new.self in
    let made = c.see.ensures ∙ ap (λ (z : BoardState). record c.self.inside.row { seen = length z.log }) c.in_default.ensures in
    let gave = c.give_board.ensures.gave ∙ ap (λ (z : BoardState). let x : Seated = (giving m.0 row z c.self.inside.told (rest m.0.out), rest m.1) in x) c.in_default.ensures in
    not_fork_told _ _ _ _ _ _ _ _ c.self.invariant.0 e.took e.told row made _ _ c.self.view_is _ gave

pub give-requires-clause-returns : goal.give-requires-clause-returns
give-requires-clause-returns g c = let e = c.take_board-board.ensures in fork_returns _ _ _ _ _ _ _ _ c.self.invariant.0 e.took e.told e.last

pub give-requires-clause-does : goal.give-requires-clause-does
give-requires-clause-does g c = let e = c.take_board-board.ensures in let n = c.in-Ok.ensures in
    fork_does _ _ _ _ _ _ _ _ c.self.invariant.0 e.took e.told e.last (subst (λ (k : ℕ). k < 4294967295) n.1.0 n.0) _ n.1.1

pub give-requires-clause-notes : goal.give-requires-clause-notes
give-requires-clause-notes g c = let e = c.take_board-board.ensures in
    fork_notes _ _ _ _ _ _ _ _ c.self.invariant.0 e.took e.told _ c.in-Ok.ensures.1.1

pub split_seat-seat-requires-clause-born : goal.split_seat-seat-requires-clause-born
split_seat-seat-requires-clause-born g c = (ap (λ (z : Seated). z.0.live) c.give.ensures.gave, (_, _, ap (λ (z : Seated). z.0.born) c.give.ensures.gave))

pub invariant_of-result : goal.invariant_of-result
invariant_of-result g c =
    let e = c.take_board-board.ensures in
    let n = c.in-Ok.ensures in
    let made = c.see.ensures ∙ ap (λ (z : BoardState). record c.self.inside.row { seen = length z.log }) n.1.1 in (
      child_pass _ _ _ _ _ _ _ _ c.self.invariant.0 e.took e.told _ c.give.ensures.gave _ _ _ _ c.split_seat-seat.ensures.right n.1.0 made c.made_row.ensures,
      child_near _ _ _ _ _ _ _ _ c.self.invariant.0 e.took e.told _ c.give.ensures.gave _ _ c.split_seat-seat.ensures.right
          (subst (λ (t : TableId). AreNear t.words c.self.inside.seat.me.0.mine.named) (sym (c.split_seat-seat.ensures.table.2 ∙ c.give.ensures.table.0 ∙ e.table.0)) c.self.invariant.1),
      child_cells _ _ _ _ _ _ _ _ c.self.invariant.0 e.took e.told _ c.give.ensures.gave _ c.split_seat-seat.ensures.right,
      made_word _ c.see.new.self c.made_row.result c.made_row.ensures c.args.latches.now.table.shared.key,
      child_at _ _ _ _ _ _ _ _ c.self.invariant.0 e.took e.told _ c.give.ensures.gave _ (ap (λ (z : Look). z.at) c.look.ensures ∙ ap (λ (z : BoardState). end_of z.log) n.1.1) _ c.split_seat-seat.ensures.right,
      child_gone _ _ _ _ _ _ _ _ c.self.invariant.0 e.took e.told _ c.give.ensures.gave _ _ c.split_seat-seat.ensures.right c.in_ok-gone.ensures,
    )

pub invariant_of-self-2 : goal.invariant_of-self-2
invariant_of-self-2 g c =
    let e = c.take_board-board.ensures in
    let n = c.in-Ok.ensures in
    let made = c.see.ensures ∙ ap (λ (z : BoardState). record c.self.inside.row { seen = length z.log }) n.1.1 in
    let stays = c.split_seat-seat.ensures.table.0 ∙ c.give.ensures.table.0 ∙ e.table.0 in (
      maker_pass _ _ _ _ _ _ _ _ c.self.invariant.0 e.took e.told _ c.give.ensures.gave _ _ c.split_seat-seat.ensures.left made,
      maker_near _ _ _ _ _ _ _ _ c.self.invariant.0 e.took e.told _ c.give.ensures.gave _ _ c.split_seat-seat.ensures.left
          (subst (λ (t : TableId). AreNear t.words c.self.inside.seat.me.0.mine.named) (sym stays) c.self.invariant.1),
      maker_cells _ _ _ _ _ _ _ _ c.self.invariant.0 e.took e.told _ c.give.ensures.gave _ c.split_seat-seat.ensures.left,
      word_stays _ _ _ _ stays (ap (λ (z : ActorRow). z.hand.fresh) c.see.ensures) c.self.invariant.3,
      maker_at _ _ _ _ _ _ _ _ c.self.invariant.0 e.took e.told _ c.give.ensures.gave _ (ap (λ (z : Look). z.at) c.look.ensures ∙ ap (λ (z : BoardState). end_of z.log) n.1.1) _ c.split_seat-seat.ensures.left,
      maker_gone _ _ _ _ _ _ _ _ c.self.invariant.0 e.took e.told _ c.give.ensures.gave _ _ c.split_seat-seat.ensures.left c.self.invariant.5,
    )

pub returns-clause-ok : goal.returns-clause-ok
returns-clause-ok g c =
    let e = c.take_board-board.ensures in
    let n = c.in-Ok.ensures in
    told_of (λ v w. Forked v w (seat_view c.split_seat-seat.result.me.0)) c.self.inside.seat.me.0 c.split_seat-seat.new.seat.me.0 _ _ c.self.view_is
    (fork_told _ _ _ _ _ _ _ _ c.self.invariant.0 e.took e.told _ c.give.ensures.gave (pass_rows _ _ _ _ _ c.self.invariant.0) (subst (λ (k : ℕ). k < 4294967295) n.1.0 n.0) _ _ c.split_seat-seat.ensures.left c.split_seat-seat.ensures.right)
