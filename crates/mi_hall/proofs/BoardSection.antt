-- A section of the board, from a seat's take of it to its give.
use Rattle.std.proofs.Common.{◌≡◌, ℕ, ◌+◌, Bool, true, IsTrue, refl, sym, ap, ◌∙◌, subst, Some, eq-eqb}
use Rattle.std.specs.Prelude.{List, slice_get, slice_set}
use Rattle.std.specs.List.{list_any}
use Rattle.atomic_table.specs.Table.{rest}
use Rattle.mi_base.specs.Configuration.{Configuration}
use Rattle.mi_board.specs.Boards.{BoardState, is_passed}
use Rattle.mi_core.specs.Events.{Can, Event, after}
use Rattle.mi_core.specs.State.{State}
use Rattle.mi_core.proofs.ActorLemmas.{set_there}
use Rattle.mi_core.proofs.KeptEvents.{each_keeps}
use Rattle.mi_entries.specs.Actors.{Actor}
use Rattle.mi_entries.specs.Records.{shard_at}
use Rattle.mi_latch.specs.declared.slots.Slot.TheVariants.{OfBoard, OfShard}
use Rattle.mi_latch.specs.Boards.{root_of}
use Rattle.mi_latch.specs.Found.{FoundBoard}
use Rattle.mi_latch.specs.Takes.{Finds, see_none, took}
use Rattle.mi_latch.specs.Views.{Doing, Fits, Mine, Seated, Sight}
use Rattle.mi_latch.proofs.BoardTold.{found_board, root_there}
use Rattle.mi_latch.proofs.Ones.{of_rows, read_shard}
use Rattle.mi_world.specs.View.{View, prefix_or}
use Rattle.mi_solo.specs.declared.rows.ActorRow.{ActorRow}
use Rattle.mi_base.specs.History.{at_position}
use Rattle.mi_tree.specs.Cells.{same_cell}
use Rattle.mi_tree.specs.Legal.{cells_of}
use Rattle.mi_hall.specs.Passes.{HasCells, giving, row_actor}
use Rattle.mi_hall.specs.Places.{BoardMakes, HasRows, HoldsRows, IsBacked, gives_board}
use Rattle.mi_hall.specs.Seats.{rows_out, seat_view}

-- the state that a take of the board found backs the seat
pub found_backs : (settings : Configuration) (v : Sight) (was : BoardState) (f : FoundBoard settings v.actor v.mine v.out was) → HoldsRows v → IsBacked f.core v
found_backs settings v was f holds = record {
  kept = f.held.kept;
  fits = f.fits;
  going = f.going;
  rows = λ n e. (let low = ((f.held.kept.sound.each v.actor v.mine.part f.fits.part).holds.shard n e).0 in
      sym (of_rows (shard_at f.core.shards n) (rows_out v.out n) (sym (read_shard f.core n f.held.kept.sound.sixteen low) ∙ f.values (n + 1) (OfShard (rows_out v.out n)) (holds n e))));
}

-- whether the claimed leaf is passed over, is as it was noted
pub passed_noted : (c : State) (a : ℕ) (m : Mine) (leaf : List ℕ) → Fits c a m → m.part.claim ≡ Some leaf
    → list_any (same_cell (prefix_or m.part.claim)) c.board.passed_over ≡ list_any (same_cell (prefix_or m.part.claim)) m.note.board.passed_over
passed_noted c a m leaf f claim = subst (λ q. is_passed q c.board ≡ is_passed q m.note.board) (sym (ap prefix_or claim)) (f.knows.passed leaf claim)

module _ (settings : Configuration) (old m : Seated) (b : BoardState) (live : old.0.live ≡ true) (is : m ≡ took see_none old 0 (OfBoard b)) (f : Finds settings old.0 0 (OfBoard b)) where
  -- what the take found, before it and after
  pub found : FoundBoard settings old.0.actor old.0.mine old.0.out b
  found = found_board settings old.0 b live f

  pub found_after : FoundBoard settings m.0.actor m.0.mine (rest m.0.out) b
  found_after = subst (λ (z : Seated). FoundBoard settings z.0.actor z.0.mine (rest z.0.out) b) (sym is) found

  -- what an event of the board alone makes of the view of a seat that took the board and gives it back
  pub board_section : HoldsRows old.0 → (e : Event) (t : Bool → Bool) (rel : State → View → View → Type 0) → BoardMakes e t rel → Can found.core old.0.actor old.0.mine.part e
      → (to : BoardState → Actor) (g : BoardState → BoardState) → (after found.core old.0.actor old.0.mine.part e).actors ≡ slice_set found.core.actors old.0.actor (to found.core.board)
      → (after found.core old.0.actor old.0.mine.part e).board ≡ g found.core.board → (after found.core old.0.actor old.0.mine.part e).shards ≡ found.core.shards → (to found.core.board).shard ≡ old.0.mine.part.shard
      → (board : BoardState) → board ≡ g b → (row : ActorRow) → to b ≡ row_actor board.settings old.0.mine.part row → (told : Bool) → t old.0.mine.told ≡ told
      → (new : Sight) → new ≡ giving m.0 row board told (rest m.0.out) → rel found.core (seat_view old.0) (seat_view new)
  board_section holds e t rel law can to g actors made shards shard board given row tie told says new gave =
      let v : Sight = old.0 in
      let a : ℕ = v.actor in
      let r : Actor = v.mine.part in
      let c : State = found.core in
      let d : State = after c a r e in
      let backed = found_backs settings v b found holds in
      let now : slice_get d.actors a ≡ Some (to c.board) = ap (λ l. slice_get l a) actors ∙ set_there c.actors a (to c.board) r found.fits.part in
      let kept = each_keeps e c backed.kept a r found.fits.part found.going can in
      let rows : HasRows d (gives_board v (to c.board) d.board (t v.mine.told) (root_of d.board) v.out) = λ n h. backed.rows n (sym shard ∙ h) ∙ ap (λ l. (shard_at l n).rows) (sym shards) in
      let known = law c v backed can (to c.board) now (root_of d.board) (root_there d.board d kept refl) v.out rows in
      let back : d.board ≡ board = made ∙ ap g found.board ∙ sym given in
      let same : to c.board ≡ row_actor board.settings r row = ap to found.board ∙ tie in
      let is_new : new ≡ gives_board v (to c.board) d.board (t v.mine.told) (root_of d.board) v.out = gave ∙ ap (λ (z : Seated). giving z.0 row board told (rest z.0.out)) is
      ∙ ap (λ q. gives_board v q board told (root_of board) v.out) (sym same) ∙ ap (λ z. gives_board v (to c.board) board z (root_of board) v.out) (sym says)
      ∙ ap (λ z. gives_board v (to c.board) z (t v.mine.told) (root_of z) v.out) (sym back) in
      subst (λ z. rel c (seat_view v) (seat_view z)) (sym is_new) known

  -- the cells of its pin are those of the pinned log, after an event
  pub board_cells : (e : Event) → Can found.core old.0.actor old.0.mine.part e
      → (to : BoardState → Actor) (g : BoardState → BoardState) → (after found.core old.0.actor old.0.mine.part e).actors ≡ slice_set found.core.actors old.0.actor (to found.core.board)
      → (after found.core old.0.actor old.0.mine.part e).board ≡ g found.core.board
      → (board : BoardState) → board ≡ g b → (row : ActorRow) → to b ≡ row_actor board.settings old.0.mine.part row → (told : Bool) → (new : Sight) → new ≡ giving m.0 row board told (rest m.0.out) → HasCells new.mine
  board_cells e can to g actors made board given row tie told new gave =
      let a : ℕ = old.0.actor in
      let r : Actor = old.0.mine.part in
      let c : State = found.core in
      let d : State = after c a r e in
      let now : slice_get d.actors a ≡ Some (to c.board) = ap (λ l. slice_get l a) actors ∙ set_there c.actors a (to c.board) r found.fits.part in
      let kept = each_keeps e c found.held.kept a r found.fits.part found.going can in
      let back : d.board ≡ board = made ∙ ap g found.board ∙ sym given in
      let same : to c.board ≡ row_actor board.settings r row = ap to found.board ∙ tie in
      subst (λ (z : Sight). HasCells z.mine) (sym gave)
      (λ q h. (let x = (kept.sound.each a (to c.board) now).saw.pin q (ap (λ (z : Actor). z.pin) same ∙ h) in x.1 ∙ ap (λ (z : BoardState). cells_of z.settings (at_position z.log q.at)) back))

-- the root is named then
pub root_seen : (v new : Sight) (row : ActorRow) (b : BoardState) (told : Bool) → new ≡ giving v row b told (rest v.out) → IsTrue ((seat_view new).named b.root)
root_seen v new row b told gave = ap (λ (z : Sight). (seat_view z).named b.root) gave ∙ (rw (eq-eqb b.root b.root refl) refl)

-- the give of a board as the seat's row and the board in hand have it
pub call_does : (settings : Configuration) (m : Seated) (q : Actor) (made board : BoardState) (row : ActorRow) (t told : Bool) → Doing settings m.0 (gives_board m.0 q made t (root_of made) (rest m.0.out)) 0 (OfBoard made)
    → board ≡ made → q ≡ row_actor board.settings m.0.mine.part row → t ≡ told → Doing settings m.0 (giving m.0 row board told (rest m.0.out)) 0 (OfBoard board)
call_does settings m q made board row t told x back tie says =
    subst (λ z. Doing settings m.0 (giving m.0 row board z (rest m.0.out)) 0 (OfBoard board)) says
    (subst (λ (z : Actor). Doing settings m.0 (gives_board m.0 z board t (root_of board) (rest m.0.out)) 0 (OfBoard board)) tie
    (subst (λ (z : BoardState). Doing settings m.0 (gives_board m.0 q z t (root_of z) (rest m.0.out)) 0 (OfBoard z)) (sym back) x))
