-- A pass ends its pin.
use Rattle.std.proofs.Common.{◌≡◌, ◌≢◌, ℕ, ◌<◌, length, Bool, refl, sym, ap, ◌∙◌, subst, Option, Some, None}
use Rattle.std.specs.Prelude.{IsSome}
use Rattle.std.proofs.lemmas.Option.{none-some}
use Rattle.atomic_table.specs.Seated.{TableId}
use Rattle.atomic_table.specs.Table.{rest}
use Rattle.mi_base.specs.Configuration.{Configuration}
use Rattle.mi_board.specs.Actors.{actor_at, without_pin}
use Rattle.mi_board.specs.Boards.{BoardState, with_actor}
use Rattle.mi_core.specs.Actors.{pinned_at}
use Rattle.mi_core.specs.Effects.{saw}
use Rattle.mi_core.specs.Events.Event.{unpin}
use Rattle.mi_core.specs.State.{board_actor}
use Rattle.mi_core.proofs.KeptLemmas.{on_board}
use Rattle.mi_entries.specs.Actors.{Actor, Pin}
use Rattle.mi_entries.specs.Records.{Rows}
use Rattle.mi_latch.specs.declared.slots.Slot.TheVariants.{OfBoard}
use Rattle.mi_latch.specs.Boards.{root_of, telling_same}
use Rattle.mi_latch.specs.Found.{FoundBoard}
use Rattle.mi_latch.specs.Takes.{Finds, see_none, took}
use Rattle.mi_latch.specs.Views.{Doing, HoldsLast, Seated}
use Rattle.mi_latch.proofs.BoardSections.{unpin_gives}
use Rattle.mi_latch.proofs.BoardTold.{tells_root}
use Rattle.mi_solo.specs.declared.rows.ActorRow.{ActorRow}
use Rattle.mi_world.specs.Boards.{Unpins}
use Rattle.mi_hall.specs.Passes.{HasCells, IsPass, PassState, giving, row_actor}
use Rattle.mi_hall.specs.Places.{untold}
use Rattle.mi_hall.specs.Seats.{seat_view}
use Rattle.mi_hall.proofs.BoardPlaces.{unpins_seated}
use Rattle.mi_hall.proofs.BoardSection.{board_cells, board_section, call_does, found, found_after}
use Rattle.mi_hall.proofs.PassLemmas.{pass_rows, pin_shown, row_found, told_of}

module _ (settings : Configuration) (old m : Seated) (a : ℕ) (row : ActorRow) (rows : Option Rows) (told : Bool) (b : BoardState) (p : IsPass old a row rows told) (is : m ≡ took see_none old 0 (OfBoard b)) (f : Finds settings old.0 0 (OfBoard b))
    (table : TableId) (was : PassState) (same : record { sight = old.0; table = table } ≡ was) (some : IsSome (seat_view was.sight).pin) where
  abbrev x : FoundBoard settings old.0.actor old.0.mine old.0.out b
  x = found settings old m b p.live is f

  pinned : (pin : Pin) × (old.0.mine.part.pin ≡ Some pin)
  pinned = pin_shown old.0.mine.log old.0.mine.part.pin (subst (λ (z : PassState). IsSome (seat_view z.sight).pin) (sym same) some)

  pub unpin_known : a < length b.actors
  unpin_known = subst (λ i. i < length b.actors) p.actor_is (subst (λ (z : BoardState). old.0.actor < length z.actors) x.board (on_board x.core x.held.kept.sound old.0.actor old.0.mine.part x.fits.part))

  pub unpin_pins : (actor_at b.actors a).pin ≢ None
  unpin_pins none =
      let holds = (x.held.kept.sound.each old.0.actor old.0.mine.part x.fits.part).holds in
      let here : (actor_at b.actors a).pin ≡ pinned_at old.0.mine.part.pin = ap (λ i. (actor_at b.actors i).pin) (sym p.actor_is) ∙ ap (λ (z : BoardState). (board_actor z old.0.actor).pin) (sym x.board) ∙ holds.pin in
      none-some pinned.0.at (sym none ∙ here ∙ ap pinned_at pinned.1)

  module _ (made : ActorRow) (board : BoardState) (given : board ≡ with_actor without_pin a b) (is_made : made ≡ record row { seen = length board.log; pin = None }) where
    abbrev to : BoardState → Actor → Actor
    to z r = record (saw z r) { pin = None }

    back : board ≡ with_actor without_pin old.0.actor b
    back = given ∙ ap (λ i. with_actor without_pin i b) (sym p.actor_is)

    tie : to b old.0.mine.part ≡ row_actor board.settings old.0.mine.part made
    tie = ap (to b) (row_found settings old a row rows told b p f)
        ∙ ap (λ (z : BoardState). row_actor z.settings old.0.mine.part (record row { seen = length z.log; pin = None })) (sym given) ∙ ap (row_actor board.settings old.0.mine.part) (sym is_made)

    pub unpin_does : HoldsLast m 0 (OfBoard b) → Doing settings m.0 (giving m.0 made board told (rest m.0.out)) 0 (OfBoard board)
    unpin_does last = call_does settings m (to b m.0.mine.part) (with_actor without_pin m.0.actor b) board made m.0.mine.told told
        (unpin_gives settings m b last (found_after settings old m b p.live is f) (record (telling_same m.0.mine) { names = root_of b }) (subst (λ (z : Seated). (pin : Pin) × (z.0.mine.part.pin ≡ Some pin)) (sym is) pinned) (tells_root m.0.actor m.0.mine b (with_actor without_pin m.0.actor b)))
        (back ∙ ap (λ (z : Seated). with_actor without_pin z.0.actor b) (sym is)) (subst (λ (z : Seated). to b z.0.mine.part ≡ row_actor board.settings z.0.mine.part made) (sym is) tie) (ap (λ (z : Seated). z.0.mine.told) is ∙ p.told_is)

    pub unpin_told : (new : Seated) → new ≡ (giving m.0 made board told (rest m.0.out), rest m.1) → Unpins (seat_view was.sight) (seat_view new.0)
    unpin_told new gave = told_of (λ v w. Unpins v w) old.0 new.0 table was same
        (board_section settings old m b p.live is f (pass_rows old a row rows told p) unpin untold (λ c v w. Unpins v w) unpins_seated pinned (λ z. to z old.0.mine.part) (with_actor without_pin old.0.actor) refl refl refl refl
        board back made tie told p.told_is new.0 (ap (λ (z : Seated). z.0) gave))

    pub unpin_cells : (new : Seated) → new ≡ (giving m.0 made board told (rest m.0.out), rest m.1) → HasCells new.0.mine
    unpin_cells new gave = board_cells settings old m b p.live is f unpin pinned (λ z. to z old.0.mine.part) (with_actor without_pin old.0.actor) refl refl board back made tie told new.0 (ap (λ (z : Seated). z.0) gave)
