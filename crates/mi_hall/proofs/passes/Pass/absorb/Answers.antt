use Rattle.std.proofs.Common.{◌≡◌, [], ap, sym, subst, ◌∙◌}
use Rattle.atomic_table.specs.Seated.{TableId}
use Rattle.atomic_table.specs.Table.{rest}
use Rattle.mi_base.specs.Configuration.{Configuration}
use Rattle.mi_latch.specs.declared.slots.Slot.TheVariants.{OfBoard}
use Rattle.mi_latch.specs.Ends.{IsBare, blend, over}
use Rattle.mi_latch.specs.Shows.{joined}
use Rattle.mi_latch.specs.Views.{HoldsLast, Seated, now}
use Rattle.mi_solo.specs.declared.rows.ActorRow.{ActorRow}
use Rattle.mi_world.specs.Families.{Absorbs, ClaimsNothing}
use Rattle.mi_hall.specs.Passes.{AreNear, IsPass, PassState}
use Rattle.mi_hall.specs.Seats.{seat_view}
use Rattle.mi_hall.proofs.AbsorbPasses.{absorb_at, absorb_cells, absorb_near, absorb_pass, absorb_told, is_bare, joined_last, absorb_gone}
use Rattle.mi_hall.specs.Absorbed.{HasGone}
use Rattle.mi_hall.proofs.PassLemmas.{told_of, word_stays}
use Rattle.mi_hall.proofs.passes.Pass.absorb.Goals as goal

pub join_seat-requires-clause-live : goal.join_seat-requires-clause-live
join_seat-requires-clause-live g c = (ap (λ (z : Seated). z.0.live) c.take_board-board.ensures.took ∙ c.self.invariant.0.live, ap (λ (z : Seated). z.0.live) c.learn.ensures.same ∙ c.other.invariant.0.live)

pub join_seat-requires-clause-unborn : goal.join_seat-requires-clause-unborn
join_seat-requires-clause-unborn g c = (ap (λ (z : Seated). z.0.born) c.take_board-board.ensures.took ∙ c.self.invariant.0.unborn, ap (λ (z : Seated). z.0.born) c.learn.ensures.same ∙ c.other.invariant.0.unborn)

pub join_seat-requires-clause-bare : goal.join_seat-requires-clause-bare
join_seat-requires-clause-bare g c = subst (λ (z : Seated). (z.0.out ≡ []) × (z.1 ≡ []) × IsBare z.0.mine.part) (sym c.learn.ensures.same)
    (is_bare _ _ _ _ _ _ c.other.invariant.0 c.learn.ensures.told (subst (λ (z : PassState). ClaimsNothing (seat_view z.sight)) (sym c.other.view_is) c.requires.idle))

pub give_board_back-requires-clause-last : goal.give_board_back-requires-clause-last
give_board_back-requires-clause-last g c = let e = c.take_board-board.ensures in subst (λ z. HoldsLast z 0 (OfBoard c.take_board-board.result)) (sym c.learn-2.ensures.same)
    (joined_last c.args.latches.now.table.shared.key _ _ c.learn.new.seat.me _ _ _ _ _ _ c.self.invariant.0 e.took c.join_seat.ensures.joined e.last)

pub invariant_of-self : goal.invariant_of-self
invariant_of-self g c =
    let m : Seated = c.take_board-board.new.seat.me in
    let joins = c.join_seat.ensures.joined ∙ ap (λ (z : Seated). let x : Seated = (joined blend over m.0 z.0, m.1) in x) c.learn.ensures.same in
    let gave = c.give_board_back.ensures.gave ∙ ap (λ (z : Seated). let x : Seated = (now z.0 z.0.mine (rest z.0.out), rest z.1) in x) c.learn-2.ensures.same in
    let key : Configuration = c.args.latches.now.table.shared.key in
    let e = c.take_board-board.ensures in
    let p = c.self.invariant in
    let its : Seated = c.other.inside.seat.me in
    let stays = c.give_board_back.ensures.table.0 ∙ c.learn-2.ensures.table.0 ∙ c.join_seat.ensures.table.0 ∙ e.table.0 in
    let one = ap (λ (z : PassState). z.table) c.other.view_is ∙ c.requires.table.1 ∙ ap (λ (z : PassState). z.table) (sym c.self.view_is) in (
      subst (IsPass c.give_board_back.new.seat.me c.self.inside.actor c.join_rows.new.row c.self.inside.rows) (sym c.any_told-self-inside.ensures)
          (absorb_pass key _ _ its _ _ _ _ _ _ p.0 e.took joins _ gave _ _ _ _ _ c.other.invariant.0 c.join_rows.ensures),
      subst (λ (t : TableId). AreNear t.words c.give_board_back.new.seat.me.0.mine.named) (sym stays)
          (absorb_near key _ _ its _ _ _ _ _ _ p.0 e.took joins _ gave _ p.1 (subst (λ (t : TableId). AreNear t.words its.0.mine.named) one c.other.invariant.1)),
      absorb_cells key _ _ its _ _ _ _ _ _ p.0 e.took joins _ gave e.told c.learn-2.ensures.told p.2,
      word_stays _ _ _ _ stays (ap (λ (z : ActorRow). z.hand.fresh) c.join_rows.ensures) p.3,
      absorb_at key _ _ its _ _ _ _ _ _ p.0 e.took joins _ gave _ _ _ _ c.other.invariant.0 _ _ _ p.4 c.other.invariant.4 c.longer_end-self-inside.ensures,
      subst (HasGone c.give_board_back.new.seat.me.0.absorbed) (sym c.keep.ensures) (absorb_gone key _ _ its _ _ _ _ _ _ p.0 e.took joins _ gave _ _ _ _ c.self.inside.gone c.other.inside.gone c.other.invariant.0 p.5 c.other.invariant.5),
    )

pub returns-clause-told : goal.returns-clause-told
returns-clause-told g c =
    let m : Seated = c.take_board-board.new.seat.me in
    let joins = c.join_seat.ensures.joined ∙ ap (λ (z : Seated). let x : Seated = (joined blend over m.0 z.0, m.1) in x) c.learn.ensures.same in
    let gave = c.give_board_back.ensures.gave ∙ ap (λ (z : Seated). let x : Seated = (now z.0 z.0.mine (rest z.0.out), rest z.1) in x) c.learn-2.ensures.same in
    let told = absorb_told _ _ _ c.other.inside.seat.me _ _ _ _ _ _ c.self.invariant.0 c.take_board-board.ensures.took joins _ gave c.take_board-board.ensures.told c.learn-2.ensures.told in
    let its = subst (λ (z : PassState). Absorbs (seat_view c.self.inside.seat.me.0) (seat_view z.sight) (seat_view c.give_board_back.new.seat.me.0)) c.other.view_is told in
    told_of (λ v w. Absorbs v (seat_view c.args.other.sight) w) c.self.inside.seat.me.0 c.give_board_back.new.seat.me.0 _ _ c.self.view_is its
