-- A call that takes the board, changes it and its actor's row by one event, and gives it back.
use Rattle.std.proofs.Common.{◌≡◌, ℕ, ◌<◌, List, [], ◌∷◌, length, Bool, false, refl, sym, ap, ◌∙◌, subst, Option, Some, None, is_some}
use Rattle.std.specs.Prelude.{slice_get}
use Rattle.std.proofs.lemmas.Bool.{false≢true}
use Rattle.atomic_table.specs.Table.{rest}
use Rattle.mi_base.specs.Configuration.{Configuration}
use Rattle.mi_board.specs.Actors.{actor_at}
use Rattle.mi_board.specs.Boards.{BoardState}
use Rattle.mi_base.specs.History.{at_position}
use Rattle.mi_core.specs.Events.{Event, after}
use Rattle.mi_core.specs.Kept.{Kept}
use Rattle.mi_core.specs.Named.{Named}
use Rattle.mi_core.specs.State.{State, board_actor}
use Rattle.mi_core.proofs.ActorLemmas.{set_there}
use Rattle.mi_core.proofs.KeptEvents.{each_keeps}
use Rattle.mi_core.proofs.KeptLemmas.{on_board}
use Rattle.mi_entries.specs.Actors.{Actor, SplitWork}
use Rattle.mi_entries.specs.Records.{Rows, shard_at}
use Rattle.mi_latch.specs.declared.slots.Slot.TheVariants.{OfBoard}
use Rattle.mi_latch.specs.Boards.{root_of, telling_same}
use Rattle.mi_latch.specs.Decided.{IsDecided}
use Rattle.mi_latch.specs.Found.{FoundBoard, MayTell}
use Rattle.mi_latch.specs.Takes.{Finds, see_none, took}
use Rattle.mi_latch.specs.Views.{Doing, HoldsLast, Seated, Sight}
use Rattle.mi_latch.proofs.BoardGives.{board_does}
use Rattle.mi_latch.proofs.BoardTold.{board_makes, root_there, tells_root}
use Rattle.mi_solo.specs.declared.rows.ActorRow.{ActorRow}
use Rattle.mi_solo.specs.OnBoards.{KeepsBoard, TurnsBoard}
use Rattle.mi_tree.specs.Legal.{cells_of}
use Rattle.mi_world.specs.View.{View}
use Rattle.mi_hall.specs.Passes.{HasCells, IsPass, giving, row_actor}
use Rattle.mi_hall.specs.Places.{BoardMakes, HasRows, gives_board}
use Rattle.mi_hall.specs.Seats.{seat_view}
use Rattle.mi_hall.proofs.BoardSection.{call_does, found, found_backs}
use Rattle.mi_hall.proofs.PassLemmas.{pass_rows}

-- who splits nothing
pub split_none : (o : Option SplitWork) → is_some o ≡ false → o ≡ None
split_none None h = refl
split_none (Some w) h = absurd (false≢true (sym h))

module _ (settings : Configuration) (old m : Seated) (a : ℕ) (row : ActorRow) (rows : Option Rows) (told : Bool) (b : BoardState) (p : IsPass old a row rows told) (is : m ≡ took see_none old 0 (OfBoard b)) (f : Finds settings old.0 0 (OfBoard b)) where
  abbrev x : FoundBoard settings old.0.actor old.0.mine old.0.out b
  x = found settings old m b p.live is f

  -- the board has the actor, and its claim
  pub row_known : a < length b.actors
  row_known = subst (λ i. i < length b.actors) p.actor_is (subst (λ (z : BoardState). old.0.actor < length z.actors) x.board (on_board x.core x.held.kept.sound old.0.actor old.0.mine.part x.fits.part))

  pub row_claim : (actor_at b.actors a).claim ≡ old.0.mine.part.claim
  row_claim =
      let holds = (x.held.kept.sound.each old.0.actor old.0.mine.part x.fits.part).holds in
      ap (λ i. (actor_at b.actors i).claim) (sym p.actor_is) ∙ ap (λ (z : BoardState). (board_actor z old.0.actor).claim) (sym x.board) ∙ holds.claim

  -- the seat with the board out
  abbrev then : Seated
  then = took see_none old 0 (OfBoard b)

  -- the board goes back as this event leaves it, with this record
  pub row_does : (made : ActorRow) (board new : BoardState) (q : Actor) → board ≡ new → q ≡ row_actor board.settings old.0.mine.part made
      → (HoldsLast then 0 (OfBoard b) → Doing settings then.0 (gives_board then.0 q new old.0.mine.told (root_of new) (rest then.0.out)) 0 (OfBoard new))
      → HoldsLast m 0 (OfBoard b) → Doing settings m.0 (giving m.0 made board told (rest m.0.out)) 0 (OfBoard board)
  row_does made board new q back tie gives = subst (λ (z : Seated). HoldsLast z 0 (OfBoard b) → Doing settings z.0 (giving z.0 made board told (rest z.0.out)) 0 (OfBoard board)) (sym is)
      (λ last. call_does settings then q new board made old.0.mine.told told (gives last) back tie p.told_is)

  -- the row stands for the record with the settings of the board that it found
  pub row_record : old.0.mine.part ≡ row_actor x.core.board.settings old.0.mine.part row
  row_record = subst (λ c. old.0.mine.part ≡ row_actor c old.0.mine.part row) (sym x.fits.knows.note.settings) p.row_is

  -- an event of the board that it found, which makes this board and the record of this row
  module _ (made : ActorRow) (board : BoardState) (e : Event) (turns : TurnsBoard x.core old.0.actor (row_actor x.core.board.settings old.0.mine.part row) e board (row_actor board.settings old.0.mine.part made)) (keeps : KeepsBoard b row board made) where
    abbrev r : Actor
    r = old.0.mine.part

    abbrev to : Actor
    to = row_actor board.settings old.0.mine.part made

    turned : TurnsBoard x.core old.0.actor old.0.mine.part e board (row_actor board.settings old.0.mine.part made)
    turned = subst (λ (q : Actor). TurnsBoard x.core old.0.actor q e board to) (sym row_record) turns

    back : (after x.core old.0.actor old.0.mine.part e).board ≡ board
    back = ap (λ (s : State). s.board) turned.1

    there : slice_get (after x.core old.0.actor old.0.mine.part e).actors old.0.actor ≡ Some (row_actor board.settings old.0.mine.part made)
    there = ap (λ (s : State). slice_get s.actors old.0.actor) turned.1 ∙ set_there x.core.actors old.0.actor to r x.fits.part

    kept : Kept (after x.core old.0.actor old.0.mine.part e)
    kept = each_keeps e x.core x.held.kept old.0.actor r x.fits.part x.going turned.0

    same_root : root_of board ≡ root_of b
    same_root =
        let at : ℕ → ℕ → List Named = λ page level. record { page = page; level = level; low = 0 } ∷ [] in
        ap (λ n. at n board.height) keeps.root ∙ ap (at b.root) keeps.height

    -- the board goes back so, and this is told
    pub gives_so : (says : Bool) → MayTell old.0.actor old.0.mine b board (record (telling_same old.0.mine) { told = says; names = root_of b }) → ((c : State) → IsDecided e x.core c)
        → HoldsLast m 0 (OfBoard b) → Doing settings m.0 (giving m.0 made board says (rest m.0.out)) 0 (OfBoard board)
    gives_so says may beside = subst (λ (z : Seated). HoldsLast z 0 (OfBoard b) → Doing settings z.0 (giving z.0 made board says (rest z.0.out)) 0 (OfBoard board)) (sym is)
        (λ last. subst (λ names. Doing settings then.0 (gives_board then.0 to board says names (rest then.0.out)) 0 (OfBoard board)) (sym same_root)
        (board_does settings then b board to (record (telling_same old.0.mine) { told = says; names = root_of b }) e last
        (board_makes settings old.0.actor old.0.mine old.0.out b x e turned.0 to there board back (record (telling_same old.0.mine) { told = says; names = root_of b }) may (λ c k fits on. beside c))))

    pub gives_back : ((c : State) → IsDecided e x.core c) → HoldsLast m 0 (OfBoard b) → Doing settings m.0 (giving m.0 made board told (rest m.0.out)) 0 (OfBoard board)
    gives_back beside = subst (λ says. HoldsLast m 0 (OfBoard b) → Doing settings m.0 (giving m.0 made board says (rest m.0.out)) 0 (OfBoard board)) p.told_is
        (gives_so old.0.mine.told (tells_root old.0.actor old.0.mine b board) beside)

    module _ (says : Bool) (new : Seated) (gave : new ≡ (giving m.0 made board says (rest m.0.out), rest m.1)) where
      given : new.0 ≡ gives_board old.0 (row_actor board.settings old.0.mine.part made) board says (root_of board) old.0.out
      given = ap (λ (z : Seated). z.0) gave ∙ ap (λ (z : Seated). giving z.0 made board says (rest z.0.out)) is

      -- of its view the event makes what it makes of any
      pub tells_so : (t : Bool → Bool) (rel : State → View → View → Type 0) → BoardMakes e t rel → t old.0.mine.told ≡ says → rel x.core (seat_view old.0) (seat_view new.0)
      tells_so t rel law so =
          let d : State = after x.core old.0.actor r e in
          let backed = found_backs settings old.0 b x (pass_rows old a row rows told p) in
          let shard : to.shard ≡ r.shard = keeps.shard ∙ sym (ap (λ (z : Actor). z.shard) p.row_is) in
          let held : HasRows d (gives_board old.0 to d.board (t old.0.mine.told) (root_of d.board) old.0.out) = λ n h. backed.rows n (sym shard ∙ h) ∙ ap (λ (s : State). (shard_at s.shards n).rows) (sym turned.1) in
          let is_new : new.0 ≡ gives_board old.0 to d.board (t old.0.mine.told) (root_of d.board) old.0.out = given ∙ ap (λ z. gives_board old.0 to board z (root_of board) old.0.out) (sym so)
          ∙ ap (λ z. gives_board old.0 to z (t old.0.mine.told) (root_of z) old.0.out) (sym back) in
          subst (λ z. rel x.core (seat_view old.0) (seat_view z)) (sym is_new) (law x.core old.0 backed turned.0 to there (root_of d.board) (root_there d.board d kept refl) old.0.out held)

      -- the cells of its pin are those of the pinned log
      pub cells_so : HasCells new.0.mine
      cells_so = subst (λ (z : Sight). HasCells z.mine) (sym given)
          (λ q h. (let y = (kept.sound.each old.0.actor to there).saw.pin q h in y.1 ∙ ap (λ (z : BoardState). cells_of z.settings (at_position z.log q.at)) back))
