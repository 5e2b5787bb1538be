-- A pass is given a splitter's next work.
use Rattle.std.proofs.Common.{◌≡◌, ℕ, Bool, sym, ap, ◌∙◌, subst, arith, Option, Some, None}
use Rattle.atomic_table.specs.Seated.{TableId}
use Rattle.atomic_table.specs.Table.{rest}
use Rattle.mi_base.specs.Configuration.{Configuration}
use Rattle.mi_board.specs.Boards.{BoardState}
use Rattle.mi_core.specs.State.{State}
use Rattle.mi_entries.specs.Records.{Rows}
use Rattle.mi_latch.specs.declared.slots.Slot.TheVariants.{OfBoard}
use Rattle.mi_latch.specs.Decided.{IsDecided}
use Rattle.mi_latch.specs.Found.{FoundBoard}
use Rattle.mi_latch.specs.Takes.{Finds, see_none, took}
use Rattle.mi_latch.specs.Views.{Doing, HoldsLast, Seated}
use Rattle.mi_solo.specs.declared.rows.ActorRow.{ActorRow}
use Rattle.mi_solo.specs.OnBoards.{TurnsBoard}
use Rattle.mi_hall.specs.Passes.{HasCells, IsPass, PassState, giving, row_actor}
use Rattle.mi_hall.specs.Seats.{seat_view}
use Rattle.mi_hall.specs.Places.{untold}
use Rattle.mi_hall.proofs.BoardSection.{found}
use Rattle.mi_hall.proofs.PassLemmas.{told_of}
use Rattle.mi_base.specs.History.{at_position, events_at}
use Rattle.mi_board.specs.Actors.{actor_at}
use Rattle.mi_board.specs.Boards.{floor_of, next_split}
use Rattle.mi_core.specs.Events.{IsFree}
use Rattle.mi_core.specs.Kept.{Kept}
use Rattle.mi_core.proofs.NextLemmas.{next_swept}
use Rattle.mi_entries.proofs.RetiredLemmas.{IsPast, past_later}
use Rattle.mi_solo.specs.BoardRows.{SweepFits, WorksRow}
use Rattle.mi_solo.proofs.BoardTurns.{shown_free, work_event, work_is, works_keep}
use Rattle.mi_tree.specs.declared.answers.Work.{Work}
use Rattle.mi_tree.specs.declared.answers.Work.TheVariants.{Idle, Split, Sweep}
use Rattle.mi_world.specs.Boards.{GivesWork}
use Rattle.mi_hall.proofs.BoardPlaces.{idle_seated, split_seated, sweep_seated}
use Rattle.mi_hall.proofs.RowCalls.{cells_so, gives_back, row_claim, row_record, tells_so}

-- a leaf that is to be swept is a cell of the pivots
sweep_fits : (s : State) → Kept s → SweepFits s.board
sweep_fits s k p e =
    let n : ℕ = events_at (floor_of s.board) in
    let due = (next_swept (at_position s.board.log (floor_of s.board)) s.board.retired p e).2 in
    let past : IsPast s.board.settings (at_position s.board.log (floor_of s.board)) p = past_later s.board.settings k.sound.limits p s.board.log k.sound.legal n n (omega arith) due in
    let above = past.above in
    (omega arith, past.pivots)

-- other states don't matter to it
works_decided : (work : Work) (s c : State) → IsDecided (work_event work) s c
works_decided (Sweep leaf) s c = tt
works_decided (Split leaf) s c = tt
works_decided Idle s c = tt

module _ (settings : Configuration) (old m : Seated) (a : ℕ) (row : ActorRow) (rows : Option Rows) (told : Bool) (b : BoardState) (p : IsPass old a row rows told) (is : m ≡ took see_none old 0 (OfBoard b)) (f : Finds settings old.0 0 (OfBoard b))
    (table : TableId) (was : PassState) (same : record { sight = old.0; table = table } ≡ was) (free : (seat_view was.sight).leaf ≡ None) (idle : (seat_view was.sight).sweep ≡ None) where
  abbrev x : FoundBoard settings old.0.actor old.0.mine old.0.out b
  x = found settings old m b p.live is f

  both : IsFree old.0.mine.part
  both = record {
    claim = ap (λ (z : PassState). (seat_view z.sight).leaf) same ∙ free;
    sweep = shown_free old.0.mine.part.sweep (ap (λ (z : PassState). (seat_view z.sight).sweep) same ∙ idle);
  }

  pub works_free : (actor_at b.actors a).claim ≡ None
  works_free = row_claim settings old m a row rows told b p is f ∙ both.claim

  pub works_fits : SweepFits b
  works_fits = subst SweepFits x.board (sweep_fits x.core x.held.kept)

  module _ (made : ActorRow) (board : BoardState) (work : Work) (d : WorksRow a work b row board made) where
    found_so : WorksRow old.0.actor work x.core.board row board made
    found_so = subst (λ i. WorksRow i work x.core.board row board made) (sym p.actor_is) (subst (λ (z : BoardState). WorksRow a work z row board made) (sym x.board) d)

    turns : TurnsBoard x.core old.0.actor (row_actor x.core.board.settings old.0.mine.part row) (work_event work) board (row_actor board.settings old.0.mine.part made)
    turns = work_is x.core old.0.actor old.0.mine.part.own row made board (subst IsFree (row_record settings old m a row rows told b p is f) both) work found_so

    pub works_does : HoldsLast m 0 (OfBoard b) → Doing settings m.0 (giving m.0 made board told (rest m.0.out)) 0 (OfBoard board)
    works_does = gives_back settings old m a row rows told b p is f made board (work_event work) turns (works_keep a b board row made work d).0 (works_decided work x.core)

    pub works_cells : (new : Seated) → new ≡ (giving m.0 made board told (rest m.0.out), rest m.1) → HasCells new.0.mine
    works_cells = cells_so settings old m a row rows told b p is f made board (work_event work) turns (works_keep a b board row made work d).0 told

  module _ (made : ActorRow) (board : BoardState) (new : Seated) (gave : new ≡ (giving m.0 made board told (rest m.0.out), rest m.1)) where
    tells : (work : Work) → WorksRow a work b row board made → GivesWork (seat_view old.0) (seat_view new.0) work
    tells (Sweep leaf) d = tells_so settings old m a row rows told b p is f made board (work_event (Sweep leaf)) (turns made board (Sweep leaf) d) (works_keep a b board row made (Sweep leaf) d).0 told new gave untold
        (λ c v w. GivesWork v w (Sweep leaf)) (sweep_seated leaf) p.told_is
    tells (Split leaf) d = tells_so settings old m a row rows told b p is f made board (work_event (Split leaf)) (turns made board (Split leaf) d) (works_keep a b board row made (Split leaf) d).0 told new gave untold
        (λ c v w. next_split c.board ≡ Some leaf → GivesWork v w (Split leaf)) (split_seated leaf) p.told_is (found_so made board (Split leaf) d).0.1.0
    tells Idle d = tells_so settings old m a row rows told b p is f made board (work_event Idle) (turns made board Idle d) (works_keep a b board row made Idle d).0 told new gave untold (λ c v w. GivesWork v w Idle) idle_seated p.told_is

    pub works_told : (work : Work) → WorksRow a work b row board made → GivesWork (seat_view was.sight) (seat_view new.0) work
    works_told work d = told_of (λ v w. GivesWork v w work) old.0 new.0 table was same (tells work d)
