-- A pass pins the whole log.
use Rattle.std.proofs.Common.{◌≡◌, ℕ, Bool, IsTrue, sym, ap, ◌∙◌, subst, Option, None}
use Rattle.std.specs.Prelude.{Result, Ok, Err}
use Rattle.atomic_table.specs.Seated.{TableId}
use Rattle.atomic_table.specs.Table.{rest}
use Rattle.mi_base.specs.Configuration.{Configuration}
use Rattle.mi_board.specs.Boards.{BoardState}
use Rattle.mi_core.specs.State.{State}
use Rattle.mi_entries.specs.Actors.{Actor}
use Rattle.mi_entries.specs.Records.{Rows}
use Rattle.mi_latch.specs.declared.slots.Slot.TheVariants.{OfBoard}
use Rattle.mi_latch.specs.Decided.{IsDecided}
use Rattle.mi_latch.specs.Found.{FoundBoard}
use Rattle.mi_latch.specs.Takes.{Finds, see_none, took}
use Rattle.mi_latch.specs.Views.{Doing, HoldsLast, Seated}
use Rattle.mi_solo.specs.declared.rows.ActorRow.{ActorRow}
use Rattle.mi_solo.specs.OnBoards.{TurnsBoard}
use Rattle.mi_hall.specs.Passes.{HasCells, IsPass, PassState, giving, row_actor}
use Rattle.mi_hall.specs.Seats.{seat_view}
use Rattle.mi_hall.specs.Places.{untold}
use Rattle.mi_hall.proofs.BoardSection.{found}
use Rattle.mi_hall.proofs.PassLemmas.{told_of}
use Rattle.mi_base.specs.declared.refusals.NoMemory.{NoMemory}
use Rattle.mi_board.specs.Actors.{actor_at}
use Rattle.mi_board.specs.Boards.{look_of, pinned}
use Rattle.mi_core.specs.Actors.{pinned_at}
use Rattle.mi_core.specs.State.{board_actor}
use Rattle.mi_solo.specs.BoardRows.{PinsRow}
use Rattle.mi_solo.specs.States.{pin_of}
use Rattle.mi_solo.specs.Viewing.{pinned_log}
use Rattle.mi_solo.proofs.BoardTurns.{pin_event, pin_is, pins_keep, shown_bare}
use Rattle.mi_tree.specs.declared.answers.Look.{Look}
use Rattle.mi_world.specs.Boards.{Pins}
use Rattle.mi_hall.proofs.BoardPlaces.{pins_none_seated, pins_seated}
use Rattle.mi_hall.proofs.BoardSection.{root_seen}
use Rattle.mi_hall.proofs.RowCalls.{cells_so, gives_back, row_record, tells_so}

-- other states don't matter to it
pins_decided : (result : Result Look NoMemory) (s c : State) → IsDecided (pin_event result) s c
pins_decided (Ok look) s c = tt
pins_decided (Err e) s c = tt

module _ (settings : Configuration) (old m : Seated) (a : ℕ) (row : ActorRow) (rows : Option Rows) (told : Bool) (b : BoardState) (p : IsPass old a row rows told) (is : m ≡ took see_none old 0 (OfBoard b)) (f : Finds settings old.0 0 (OfBoard b))
    (table : TableId) (was : PassState) (same : record { sight = old.0; table = table } ≡ was) (free : (seat_view was.sight).pin ≡ None) where
  abbrev x : FoundBoard settings old.0.actor old.0.mine old.0.out b
  x = found settings old m b p.live is f

  bare : old.0.mine.part.pin ≡ None
  bare = shown_bare old.0.mine.log old.0.mine.part.pin (ap (λ (z : PassState). (seat_view z.sight).pin) same ∙ free)

  pub pin_free : (actor_at b.actors a).pin ≡ None
  pin_free =
      let holds = (x.held.kept.sound.each old.0.actor old.0.mine.part x.fits.part).holds in
      ap (λ i. (actor_at b.actors i).pin) (sym p.actor_is) ∙ ap (λ (z : BoardState). (board_actor z old.0.actor).pin) (sym x.board) ∙ holds.pin ∙ ap pinned_at bare

  module _ (made : ActorRow) (board : BoardState) (result : Result Look NoMemory) (d : PinsRow a result b row board made) where
    found_so : PinsRow old.0.actor result x.core.board row board made
    found_so = subst (λ i. PinsRow i result x.core.board row board made) (sym p.actor_is) (subst (λ (z : BoardState). PinsRow a result z row board made) (sym x.board) d)

    turns : TurnsBoard x.core old.0.actor (row_actor x.core.board.settings old.0.mine.part row) (pin_event result) board (row_actor board.settings old.0.mine.part made)
    turns =
        let none : pin_of x.core.board.settings row.pin ≡ None = sym (ap (λ (q : Actor). q.pin) (row_record settings old m a row rows told b p is f)) ∙ bare in
        pin_is x.core old.0.actor old.0.mine.part.own row made board none result found_so

    pub pins_does : HoldsLast m 0 (OfBoard b) → Doing settings m.0 (giving m.0 made board told (rest m.0.out)) 0 (OfBoard board)
    pins_does = gives_back settings old m a row rows told b p is f made board (pin_event result) turns (pins_keep a b board row made result d).0 (pins_decided result x.core)

    pub pins_cells : (new : Seated) → new ≡ (giving m.0 made board told (rest m.0.out), rest m.1) → HasCells new.0.mine
    pins_cells = cells_so settings old m a row rows told b p is f made board (pin_event result) turns (pins_keep a b board row made result d).0 told

  module _ (made : ActorRow) (board : BoardState) (new : Seated) (gave : new ≡ (giving m.0 made board told (rest m.0.out), rest m.1)) where
    tells : (result : Result Look NoMemory) → PinsRow a result b row board made → Pins (seat_view old.0) (seat_view new.0) result
    tells (Ok look) d =
        let y = found_so made board (Ok look) d in
        let root : board.root ≡ x.core.board.root = ap (λ (z : BoardState). z.root) y.1 in
        subst (λ z. Pins (seat_view old.0) (seat_view new.0) (Ok z)) (ap look_of (sym y.1) ∙ sym y.0)
        (tells_so settings old m a row rows told b p is f made board (pin_event (Ok look)) (turns made board (Ok look) d) (pins_keep a b board row made (Ok look) d).0 told new gave untold
        (λ c v w. IsTrue (w.named c.board.root) → Pins v w (Ok (look_of (pinned v.actor c.board)))) pins_seated p.told_is
        (subst (λ z. IsTrue ((seat_view new.0).named z)) root (root_seen m.0 new.0 made board told (ap (λ (z : Seated). z.0) gave))))
    tells (Err e) d = tells_so settings old m a row rows told b p is f made board (pin_event (Err e)) (turns made board (Err e) d) (pins_keep a b board row made (Err e) d).0 told new gave untold
        (λ c v w. v.pin ≡ None → Pins v w (Err e)) (pins_none_seated e) p.told_is (ap (pinned_log old.0.mine.log) bare)

    pub pins_told : (result : Result Look NoMemory) → PinsRow a result b row board made → Pins (seat_view was.sight) (seat_view new.0) result
    pins_told result d = told_of (λ v w. Pins v w result) old.0 new.0 table was same (tells result d)
