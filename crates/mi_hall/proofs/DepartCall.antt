-- A pass leaves, or counts who hasn't.
use Rattle.std.proofs.Common.{◌≡◌, ℕ, ◌<◌, length, Bool, true, refl, sym, ap, ◌∙◌, subst, Option, get_or-set_same}
use Rattle.atomic_table.specs.Seated.{TableId}
use Rattle.atomic_table.specs.Table.{rest}
use Rattle.mi_base.specs.Configuration.{Configuration}
use Rattle.mi_board.specs.Actors.{actor_at, gone, idle}
use Rattle.mi_board.specs.Boards.{BoardState, with_actor}
use Rattle.mi_board.specs.declared.actors.ActorState.{ActorState}
use Rattle.mi_core.specs.Effects.{saw}
use Rattle.mi_core.specs.Events.Event.{depart, see}
use Rattle.mi_core.proofs.KeptLemmas.{on_board}
use Rattle.mi_entries.specs.Records.{Rows}
use Rattle.mi_latch.specs.declared.slots.Slot.TheVariants.{OfBoard}
use Rattle.mi_latch.specs.Boards.{Telling, root_of, telling_same}
use Rattle.mi_latch.specs.Found.{FoundBoard}
use Rattle.mi_latch.specs.Takes.{Finds, see_none, took}
use Rattle.mi_latch.specs.Views.{Doing, HoldsLast, Mine, Seated}
use Rattle.mi_latch.proofs.BoardSections.{depart_gives, see_gives}
use Rattle.mi_latch.proofs.BoardTold.{tells_root}
use Rattle.mi_solo.specs.declared.rows.ActorRow.{ActorRow}
use Rattle.mi_world.specs.Families.{NotForked}
use Rattle.mi_hall.specs.Families.{Sees}
use Rattle.mi_hall.specs.Passes.{HasCells, IsPass, PassState, giving, row_actor}
use Rattle.mi_hall.specs.Places.{untold}
use Rattle.mi_hall.specs.Seats.{seat_view}
use Rattle.mi_hall.proofs.BoardSection.{board_cells, board_section, call_does, found, found_after}
use Rattle.mi_hall.proofs.PassLemmas.{pass_rows, row_found, told_of}
use Rattle.mi_hall.proofs.SeeingPlaces.{departs_seated, sees_seated}

module _ (settings : Configuration) (old m : Seated) (a : ℕ) (row : ActorRow) (rows : Option Rows) (told : Bool) (b : BoardState) (p : IsPass old a row rows told) (is : m ≡ took see_none old 0 (OfBoard b)) (f : Finds settings old.0 0 (OfBoard b)) where
  -- the board has its actor
  pub actor_known : a < length b.actors
  actor_known =
      let x : FoundBoard settings old.0.actor old.0.mine old.0.out b = found settings old m b p.live is f in
      subst (λ i. i < length b.actors) p.actor_is (subst (λ (z : BoardState). old.0.actor < length z.actors) x.board (on_board x.core x.held.kept.sound old.0.actor old.0.mine.part x.fits.part))

  abbrev rooted : Mine → Telling
  rooted q = record (telling_same q) { names = root_of b }

  module _ (made : ActorRow) (is_made : made ≡ record row { seen = length b.log }) where
    tie : saw b old.0.mine.part ≡ row_actor b.settings old.0.mine.part made
    tie = ap (saw b) (row_found settings old a row rows told b p f) ∙ ap (row_actor b.settings old.0.mine.part) (sym is_made)

    tied : saw b m.0.mine.part ≡ row_actor b.settings m.0.mine.part made
    tied = subst (λ (z : Seated). saw b z.0.mine.part ≡ row_actor b.settings z.0.mine.part made) (sym is) tie

    says : m.0.mine.told ≡ told
    says = ap (λ (z : Seated). z.0.mine.told) is ∙ p.told_is

    pub see_does : HoldsLast m 0 (OfBoard b) → Doing settings m.0 (giving m.0 made b told (rest m.0.out)) 0 (OfBoard b)
    see_does last = call_does settings m (saw b m.0.mine.part) b b made m.0.mine.told told
        (see_gives settings m b last (found_after settings old m b p.live is f) (rooted m.0.mine) (tells_root m.0.actor m.0.mine b b)) refl tied says

    pub see_told : (table : TableId) (was : PassState) → record { sight = old.0; table = table } ≡ was → (new : Seated) → new ≡ (giving m.0 made b told (rest m.0.out), rest m.1) → Sees (seat_view was.sight) (seat_view new.0)
    see_told table was same new gave = told_of (λ v w. Sees v w) old.0 new.0 table was same
        (board_section settings old m b p.live is f (pass_rows old a row rows told p) see untold (λ c v w. Sees v w) sees_seated tt (λ z. saw z old.0.mine.part) (λ z. z) refl refl refl refl
        b refl made tie told p.told_is new.0 (ap (λ (z : Seated). z.0) gave))

    -- no actor was made
    pub not_fork_told : (table : TableId) (was : PassState) → record { sight = old.0; table = table } ≡ was → (new : Seated) → new ≡ (giving m.0 made b told (rest m.0.out), rest m.1) → NotForked (seat_view was.sight) (seat_view new.0)
    not_fork_told table was same new gave =
        let x = see_told table was same new gave in
        record { later = x.later; lacked = x.lacked; told = x.told; same = x.same; floor = x.floor; page = x.page; tries = x.tries }

    pub see_cells : (new : Seated) → new ≡ (giving m.0 made b told (rest m.0.out), rest m.1) → HasCells new.0.mine
    see_cells new gave = board_cells settings old m b p.live is f see tt (λ z. saw z old.0.mine.part) (λ z. z) refl refl b refl made tie told new.0 (ap (λ (z : Seated). z.0) gave)

  module _ (made : ActorRow) (board : BoardState) (given : board ≡ with_actor gone a b) (is_made : made ≡ record row { seen = length board.log }) where
    back : board ≡ with_actor gone old.0.actor b
    back = given ∙ ap (λ i. with_actor gone i b) (sym p.actor_is)

    left : saw b old.0.mine.part ≡ row_actor board.settings old.0.mine.part made
    left = ap (saw b) (row_found settings old a row rows told b p f)
        ∙ ap (λ (z : BoardState). row_actor z.settings old.0.mine.part (record row { seen = length z.log })) (sym given) ∙ ap (row_actor board.settings old.0.mine.part) (sym is_made)

    pub depart_does : HoldsLast m 0 (OfBoard b) → Doing settings m.0 (giving m.0 made board told (rest m.0.out)) 0 (OfBoard board)
    depart_does last = call_does settings m (saw b m.0.mine.part) (with_actor gone m.0.actor b) board made m.0.mine.told told
        (depart_gives settings m b last (found_after settings old m b p.live is f) (rooted m.0.mine) (tells_root m.0.actor m.0.mine b (with_actor gone m.0.actor b)))
        (back ∙ ap (λ (z : Seated). with_actor gone z.0.actor b) (sym is)) (subst (λ (z : Seated). saw b z.0.mine.part ≡ row_actor board.settings z.0.mine.part made) (sym is) left) (ap (λ (z : Seated). z.0.mine.told) is ∙ p.told_is)

    pub depart_told : (table : TableId) (was : PassState) → record { sight = old.0; table = table } ≡ was → (new : Seated) → new ≡ (giving m.0 made board told (rest m.0.out), rest m.1) → Sees (seat_view was.sight) (seat_view new.0)
    depart_told table was same new gave = told_of (λ v w. Sees v w) old.0 new.0 table was same
        (board_section settings old m b p.live is f (pass_rows old a row rows told p) depart untold (λ c v w. Sees v w) departs_seated tt (λ z. saw z old.0.mine.part) (with_actor gone old.0.actor) refl refl refl refl
        board back made left told p.told_is new.0 (ap (λ (z : Seated). z.0) gave))

    pub depart_cells : (new : Seated) → new ≡ (giving m.0 made board told (rest m.0.out), rest m.1) → HasCells new.0.mine
    depart_cells new gave = board_cells settings old m b p.live is f depart tt (λ z. saw z old.0.mine.part) (with_actor gone old.0.actor) refl refl board back made left told new.0 (ap (λ (z : Seated). z.0) gave)

    -- it has left
    pub depart_gone : (new : Seated) → new ≡ (giving m.0 made board told (rest m.0.out), rest m.1) → (actor_at new.0.mine.note.board.actors new.0.actor).departed ≡ true
    depart_gone new gave =
        let number : new.0.actor ≡ a = ap (λ (z : Seated). z.0.actor) gave ∙ ap (λ (z : Seated). z.0.actor) is ∙ p.actor_is in
        let noted : new.0.mine.note.board ≡ with_actor gone a b = ap (λ (z : Seated). z.0.mine.note.board) gave ∙ given in
        ap (λ i. (actor_at new.0.mine.note.board.actors i).departed) number ∙ ap (λ (z : BoardState). (actor_at z.actors a).departed) noted
        ∙ ap (λ (z : ActorState). z.departed) (get_or-set_same b.actors a (gone (actor_at b.actors a)) idle actor_known)
