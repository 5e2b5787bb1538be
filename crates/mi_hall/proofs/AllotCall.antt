-- A pass takes a page in hand.
use Rattle.std.proofs.Common.{◌≡◌, ℕ, ◌+◌, ◌<◌, Bool, true, false, refl, sym, ap, ◌∙◌, subst, arith, Option, None, is_some}
use Rattle.std.specs.Prelude.{Result, Ok, Err}
use Rattle.atomic_table.specs.Seated.{TableId}
use Rattle.atomic_table.specs.Table.{rest}
use Rattle.mi_base.specs.Configuration.{Configuration}
use Rattle.mi_board.specs.Boards.{BoardState}
use Rattle.mi_core.specs.State.{State}
use Rattle.mi_entries.specs.Actors.{Actor}
use Rattle.mi_entries.specs.Records.{Rows}
use Rattle.mi_latch.specs.declared.slots.Slot.TheVariants.{OfBoard}
use Rattle.mi_latch.specs.Decided.{IsDecided}
use Rattle.mi_latch.specs.Found.{FoundBoard}
use Rattle.mi_latch.specs.Takes.{Finds, see_none, took}
use Rattle.mi_latch.specs.Views.{Doing, HoldsLast, Seated}
use Rattle.mi_solo.specs.declared.rows.ActorRow.{ActorRow}
use Rattle.mi_solo.specs.OnBoards.{TurnsBoard}
use Rattle.mi_hall.specs.Passes.{HasCells, IsPass, PassState, giving, row_actor}
use Rattle.mi_hall.specs.Seats.{seat_view}
use Rattle.mi_hall.specs.Places.{untold}
use Rattle.mi_hall.proofs.BoardSection.{found}
use Rattle.mi_hall.proofs.PassLemmas.{told_of}
use Rattle.mi_latch.specs.Boards.{root_of, telling_same}
use Rattle.mi_latch.specs.Found.{MayTell}
use Rattle.mi_latch.proofs.BoardTold.{tells_full, tells_root}
use Rattle.mi_solo.specs.BoardRows.{AllotsRow}
use Rattle.mi_solo.proofs.BoardTurns.{allot_event, allot_is, allots_keep}
use Rattle.mi_solo.proofs.CoreLemmas.{none_of}
use Rattle.mi_tree.specs.declared.answers.AllotRefusal.{AllotRefusal}
use Rattle.mi_tree.specs.declared.answers.AllotRefusal.TheVariants.{Memory, PagesFull}
use Rattle.mi_world.specs.Boards.{Allots}
use Rattle.mi_hall.specs.Passes.{HasWord, told_after}
use Rattle.mi_hall.proofs.BoardPlaces.{allots_full_seated, allots_none_seated, allots_seated}
use Rattle.mi_hall.proofs.PassLemmas.{word_stays}
use Rattle.mi_hall.proofs.RowCalls.{cells_so, gives_so, row_record, tells_so}

-- other states don't matter to it
allots_decided : (result : Result (Unit {0}) AllotRefusal) (s c : State) → IsDecided (allot_event result) s c
allots_decided (Ok _) s c = tt
allots_decided (Err (PagesFull limit)) s c = tt
allots_decided (Err Memory) s c = tt

module _ (settings : Configuration) (old m : Seated) (a : ℕ) (row : ActorRow) (rows : Option Rows) (told : Bool) (b : BoardState) (p : IsPass old a row rows told) (is : m ≡ took see_none old 0 (OfBoard b)) (f : Finds settings old.0 0 (OfBoard b))
    (table : TableId) (was : PassState) (same : record { sight = old.0; table = table } ≡ was) (free : is_some (seat_view was.sight).fresh ≡ false) where
  abbrev x : FoundBoard settings old.0.actor old.0.mine old.0.out b
  x = found settings old m b p.live is f

  bare : old.0.mine.part.fresh ≡ None
  bare = none_of old.0.mine.part.fresh (ap (λ (z : PassState). is_some (seat_view z.sight).fresh) same ∙ free)

  module _ (made : ActorRow) (board : BoardState) (result : Result (Unit {0}) AllotRefusal) (d : AllotsRow result b row board made) where
    found_so : AllotsRow result x.core.board row board made
    found_so = subst (λ (z : BoardState). AllotsRow result z row board made) (sym x.board) d

    turns : TurnsBoard x.core old.0.actor (row_actor x.core.board.settings old.0.mine.part row) (allot_event result) board (row_actor board.settings old.0.mine.part made)
    turns = allot_is x.core old.0.actor old.0.mine.part.own row made board (sym (ap (λ (q : Actor). q.fresh) (row_record settings old m a row rows told b p is f)) ∙ bare) result found_so

    pub allots_cells : (new : Seated) → new ≡ (giving m.0 made board (told_after result told) (rest m.0.out), rest m.1) → HasCells new.0.mine
    allots_cells = cells_so settings old m a row rows told b p is f made board (allot_event result) turns (allots_keep b board row made result d) (told_after result told)

  -- that all pages are allotted may be told where they are
  allots_may : (made : ActorRow) (board : BoardState) (result : Result (Unit {0}) AllotRefusal) → AllotsRow result b row board made → MayTell old.0.actor old.0.mine b board (record (telling_same old.0.mine) { told = told_after result told; names = root_of b })
  allots_may made board (Ok _) d = subst (λ says. MayTell old.0.actor old.0.mine b board (record (telling_same old.0.mine) { told = says; names = root_of b })) p.told_is (tells_root old.0.actor old.0.mine b board)
  allots_may made board (Err (PagesFull limit)) d = tells_full old.0.actor old.0.mine b board (subst (λ (z : BoardState). z.allotted ≡ z.settings.pages) (sym d.2) (d.1 ∙ d.0))
  allots_may made board (Err Memory) d = subst (λ says. MayTell old.0.actor old.0.mine b board (record (telling_same old.0.mine) { told = says; names = root_of b })) p.told_is (tells_root old.0.actor old.0.mine b board)

  pub allots_does : (made : ActorRow) (board : BoardState) (result : Result (Unit {0}) AllotRefusal) → AllotsRow result b row board made → HoldsLast m 0 (OfBoard b) → Doing settings m.0 (giving m.0 made board (told_after result told) (rest m.0.out)) 0 (OfBoard board)
  allots_does made board result d = gives_so settings old m a row rows told b p is f made board (allot_event result) (turns made board result d) (allots_keep b board row made result d) (told_after result told) (allots_may made board result d) (allots_decided result x.core)

  module _ (made : ActorRow) (board : BoardState) (new : Seated) where
    tells : (result : Result (Unit {0}) AllotRefusal) → AllotsRow result b row board made → new ≡ (giving m.0 made board (told_after result told) (rest m.0.out), rest m.1) → Allots (seat_view old.0) (seat_view new.0) result
    tells (Ok u) d gave = tells_so settings old m a row rows told b p is f made board (allot_event (Ok u)) (turns made board (Ok u) d) (allots_keep b board row made (Ok u) d) told new gave untold (λ c v w. Allots v w (Ok tt)) allots_seated p.told_is
    tells (Err (PagesFull limit)) d gave =
        let y = found_so made board (Err (PagesFull limit)) d in
        subst (λ z. Allots (seat_view old.0) (seat_view new.0) (Err (PagesFull z))) (sym y.0)
        (tells_so settings old m a row rows told b p is f made board (allot_event (Err (PagesFull limit))) (turns made board (Err (PagesFull limit)) d) (allots_keep b board row made (Err (PagesFull limit)) d) true new gave (λ z. true)
        (λ c v w. Allots v w (Err (PagesFull c.board.settings.pages))) allots_full_seated refl)
    tells (Err Memory) d gave = tells_so settings old m a row rows told b p is f made board (allot_event (Err Memory)) (turns made board (Err Memory) d) (allots_keep b board row made (Err Memory) d) told new gave untold (λ c v w. Allots v w (Err Memory)) allots_none_seated p.told_is

    pub allots_told : (result : Result (Unit {0}) AllotRefusal) → AllotsRow result b row board made → new ≡ (giving m.0 made board (told_after result told) (rest m.0.out), rest m.1) → Allots (seat_view was.sight) (seat_view new.0) result
    allots_told result d gave = told_of (λ v w. Allots v w result) old.0 new.0 table was same (tells result d gave)

  -- a page that is allotted has a word
  pub allots_word : (its now : TableId) → its.words ≡ settings.pages + 17 → was.table ≡ its → now ≡ table → HasWord table.words row.hand.fresh
      → (made : ActorRow) (board : BoardState) (result : Result (Unit {0}) AllotRefusal) → AllotsRow result b row board made → HasWord now.words made.hand.fresh
  allots_word its now many fits stays word made board (Ok _) d =
      let one : now.words ≡ its.words = ap (λ (t : TableId). t.words) (stays ∙ ap (λ (z : PassState). z.table) same ∙ fits) in
      let pages : b.settings.pages ≡ settings.pages = ap (λ (z : BoardState). z.settings.pages) (sym x.board) ∙ ap (λ (s : Configuration). s.pages) x.held.same in
      let less = d.0 in
      subst (HasWord now.words) (sym (ap (λ (z : ActorRow). z.hand.fresh) d.2)) (let y : b.allotted + 17 < now.words = omega (arith, less, one, many, pages) in y)
  allots_word its now many fits stays word made board (Err (PagesFull limit)) d = word_stays table now row.hand.fresh made.hand.fresh stays (ap (λ (z : ActorRow). z.hand.fresh) d.3) word
  allots_word its now many fits stays word made board (Err Memory) d = word_stays table now row.hand.fresh made.hand.fresh stays (ap (λ (z : ActorRow). z.hand.fresh) d.1) word
