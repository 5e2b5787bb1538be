-- A pass publishes its split.
use Rattle.std.proofs.Common.{◌≡◌, ℕ, length, Bool, sym, ap, ◌∙◌, subst, Option}
use Rattle.std.specs.Prelude.{Result, Ok, Err}
use Rattle.atomic_table.specs.Seated.{TableId}
use Rattle.atomic_table.specs.Table.{rest}
use Rattle.mi_base.specs.Configuration.{Configuration}
use Rattle.mi_board.specs.Boards.{BoardState}
use Rattle.mi_core.specs.State.{State}
use Rattle.mi_entries.specs.Actors.{Actor}
use Rattle.mi_entries.specs.Records.{Rows}
use Rattle.mi_latch.specs.declared.slots.Slot.TheVariants.{OfBoard}
use Rattle.mi_latch.specs.Decided.{IsDecided}
use Rattle.mi_latch.specs.Found.{FoundBoard}
use Rattle.mi_latch.specs.Takes.{Finds, see_none, took}
use Rattle.mi_latch.specs.Views.{Doing, HoldsLast, Seated, Sight}
use Rattle.mi_solo.specs.declared.rows.ActorRow.{ActorRow}
use Rattle.mi_solo.specs.OnBoards.{TurnsBoard}
use Rattle.mi_hall.specs.Passes.{HasCells, IsPass, PassState, giving, row_actor}
use Rattle.mi_hall.specs.Seats.{seat_view}
use Rattle.mi_hall.specs.Places.{untold}
use Rattle.mi_hall.proofs.BoardSection.{found}
use Rattle.mi_hall.proofs.PassLemmas.{told_of}
use Rattle.mi_base.specs.declared.records.Position.{Position}
use Rattle.mi_base.specs.declared.refusals.NoMemory.{NoMemory}
use Rattle.mi_base.specs.History.{end_of}
use Rattle.mi_board.specs.Boards.{leaf_claimed}
use Rattle.mi_core.specs.Events.{Can, leaf_or}
use Rattle.mi_core.specs.Events.Event.{publish}
use Rattle.mi_solo.specs.BoardRows.{MayEnter, PublishesRow}
use Rattle.mi_solo.specs.Viewing.{shown_to}
use Rattle.mi_solo.specs.States.{split_of}
use Rattle.mi_solo.proofs.BoardTurns.{publish_event, publish_is, publishes_keep}
use Rattle.mi_solo.proofs.GatheredLemmas.{may_publish}
use Rattle.mi_solo.proofs.PublishSections.{leaf_enters, row_enters}
use Rattle.mi_world.specs.Splits.{IsGathered, Publishes}
use Rattle.mi_world.specs.View.{View}
use Rattle.mi_hall.specs.Places.{IsBacked}
use Rattle.mi_hall.proofs.BoardPlaces.{publishes_none_seated, publishes_seated}
use Rattle.mi_hall.proofs.BoardSection.{found_backs}
use Rattle.mi_hall.proofs.PassLemmas.{pass_rows}
use Rattle.mi_hall.proofs.RowCalls.{cells_so, gives_back, row_record, tells_so}
use Rattle.mi_hall.proofs.SeatConditions.{gathered_seated, seat_backed}

-- all that was gathered is copied
abbrev AllCopied : View → Type 0
AllCopied v = v.copied ≡ length v.copies

-- other states don't matter to it
publishes_decided : (result : Result Position NoMemory) (s c : State) → IsDecided (publish_event result) s c
publishes_decided (Ok position) s c = tt
publishes_decided (Err e) s c = tt

module _ (settings : Configuration) (old m : Seated) (a : ℕ) (row : ActorRow) (rows : Option Rows) (told : Bool) (b : BoardState) (p : IsPass old a row rows told) (is : m ≡ took see_none old 0 (OfBoard b)) (f : Finds settings old.0 0 (OfBoard b))
    (table : TableId) (was : PassState) (same : record { sight = old.0; table = table } ≡ was) (leaf : IsGathered (seat_view was.sight)) (all : (seat_view was.sight).copied ≡ length (seat_view was.sight).copies) where
  abbrev x : FoundBoard settings old.0.actor old.0.mine old.0.out b
  x = found settings old m b p.live is f

  abbrev r : Actor
  r = old.0.mine.part

  backs : IsBacked x.core old.0
  backs = found_backs settings old.0 b x (pass_rows old a row rows told p)

  gathered : IsGathered (shown_to x.core old.0.actor r)
  gathered = gathered_seated x.core old.0 backs (subst (λ (z : PassState). IsGathered (seat_view z.sight)) (sym same) leaf)

  copied : AllCopied (shown_to x.core old.0.actor r)
  copied = subst AllCopied (seat_backed x.core old.0 backs) (subst (λ (z : PassState). AllCopied (seat_view z.sight)) (sym same) all)

  its : old.0.mine.part ≡ row_actor x.core.board.settings old.0.mine.part row
  its = row_record settings old m a row rows told b p is f

  split_is : old.0.mine.part.split ≡ split_of row.split
  split_is = ap (λ (z : Actor). z.split) its

  pub publish_enters : MayEnter a b row
  publish_enters = subst (λ i. MayEnter i b row) p.actor_is (subst (λ (z : BoardState). MayEnter old.0.actor z row) x.board (row_enters x.core x.held.kept old.0.actor r x.fits.part row split_is gathered copied))

  module _ (made : ActorRow) (board : BoardState) (result : Result Position NoMemory) (d : PublishesRow a result b row board made) where
    turns : TurnsBoard x.core old.0.actor (row_actor x.core.board.settings old.0.mine.part row) (publish_event result) board (row_actor board.settings old.0.mine.part made)
    turns =
        let can = subst (λ (q : Actor). Can x.core old.0.actor q publish) its (may_publish x.core x.held.kept old.0.actor r x.fits.part gathered copied) in
        let claim : leaf_claimed x.core.board old.0.actor ≡ leaf_or row.claim = leaf_enters x.core x.held.kept old.0.actor r x.fits.part row split_is gathered copied ∙ ap (λ (q : Actor). leaf_or q.claim) its in
        publish_is x.core old.0.actor old.0.mine.part.own row made board can claim result
        (subst (λ i. PublishesRow i result x.core.board row board made) (sym p.actor_is) (subst (λ (z : BoardState). PublishesRow a result z row board made) (sym x.board) d))

    pub publishes_does : HoldsLast m 0 (OfBoard b) → Doing settings m.0 (giving m.0 made board told (rest m.0.out)) 0 (OfBoard board)
    publishes_does = gives_back settings old m a row rows told b p is f made board (publish_event result) turns (publishes_keep a b board row made result d).0 (publishes_decided result x.core)

    pub publishes_cells : (new : Seated) → new ≡ (giving m.0 made board told (rest m.0.out), rest m.1) → HasCells new.0.mine
    publishes_cells = cells_so settings old m a row rows told b p is f made board (publish_event result) turns (publishes_keep a b board row made result d).0 told

  module _ (made : ActorRow) (board : BoardState) (new : Seated) (gave : new ≡ (giving m.0 made board told (rest m.0.out), rest m.1)) where
    tells : (result : Result Position NoMemory) → PublishesRow a result b row board made → Publishes (seat_view old.0) (seat_view new.0) result
    tells (Ok position) d =
        let seen : new.0 ≡ giving m.0 made board told (rest m.0.out) = ap (λ (z : Seated). z.0) gave in
        subst (λ z. Publishes (seat_view old.0) (seat_view new.0) (Ok z)) (ap (λ (z : Sight). end_of z.mine.log) seen ∙ sym d.0.0)
        (tells_so settings old m a row rows told b p is f made board (publish_event (Ok position)) (turns made board (Ok position) d) (publishes_keep a b board row made (Ok position) d).0 told new gave untold
        (λ c v w. Publishes v w (Ok (end_of w.seen))) publishes_seated p.told_is)
    tells (Err e) d = tells_so settings old m a row rows told b p is f made board (publish_event (Err e)) (turns made board (Err e) d) (publishes_keep a b board row made (Err e) d).0 told new gave untold (λ c v w. Publishes v w (Err e)) (publishes_none_seated e) p.told_is

    pub publishes_told : (result : Result Position NoMemory) → PublishesRow a result b row board made → Publishes (seat_view was.sight) (seat_view new.0) result
    publishes_told result d = told_of (λ v w. Publishes v w result) old.0 new.0 table was same (tells result d)
