-- A look of a pass.
use Rattle.std.proofs.Common.{◌≡◌, ℕ, length, Bool, IsTrue, refl, sym, ap, ◌∙◌, subst, Option}
use Rattle.atomic_table.specs.Seated.{TableId}
use Rattle.atomic_table.specs.Table.{rest}
use Rattle.mi_base.specs.Configuration.{Configuration}
use Rattle.mi_board.specs.Boards.{BoardState, floor_of, look_of}
use Rattle.mi_core.specs.Effects.{looked}
use Rattle.mi_core.specs.Events.Event.{look}
use Rattle.mi_entries.specs.Actors.{Actor}
use Rattle.mi_entries.specs.Records.{Rows}
use Rattle.mi_latch.specs.declared.slots.Slot.TheVariants.{OfBoard}
use Rattle.mi_latch.specs.Boards.{root_of, telling_same}
use Rattle.mi_latch.specs.Takes.{Finds, see_none, took}
use Rattle.mi_latch.specs.Views.{Doing, HoldsLast, Seated}
use Rattle.mi_latch.proofs.BoardSections.{look_gives}
use Rattle.mi_latch.proofs.BoardTold.{tells_root}
use Rattle.mi_solo.specs.declared.rows.ActorRow.{ActorRow}
use Rattle.mi_tree.specs.declared.answers.Look.{Look}
use Rattle.mi_world.specs.Boards.{Looks}
use Rattle.mi_hall.specs.Passes.{HasCells, IsPass, PassState, giving, row_actor}
use Rattle.mi_hall.specs.Places.{gives_board, untold}
use Rattle.mi_hall.specs.Seats.{seat_view}
use Rattle.mi_hall.proofs.BoardPlaces.{looks_seated}
use Rattle.mi_hall.proofs.BoardSection.{board_cells, board_section, found, found_after, root_seen}
use Rattle.mi_hall.proofs.PassLemmas.{pass_rows, row_found, told_of}

module _ (settings : Configuration) (old m : Seated) (a : ℕ) (row made : ActorRow) (rows : Option Rows) (told : Bool) (b : BoardState) (p : IsPass old a row rows told) (is : m ≡ took see_none old 0 (OfBoard b)) (f : Finds settings old.0 0 (OfBoard b))
    (is_made : made ≡ record row { seen = length b.log; floor = floor_of b }) where
  tie : looked b old.0.mine.part ≡ row_actor b.settings old.0.mine.part made
  tie = ap (looked b) (row_found settings old a row rows told b p f) ∙ ap (row_actor b.settings old.0.mine.part) (sym is_made)

  pub look_does : HoldsLast m 0 (OfBoard b) → Doing settings m.0 (giving m.0 made b told (rest m.0.out)) 0 (OfBoard b)
  look_does last =
      let says : m.0.mine.told ≡ told = ap (λ (z : Seated). z.0.mine.told) is ∙ p.told_is in
      let same : looked b m.0.mine.part ≡ row_actor b.settings m.0.mine.part made = subst (λ (z : Seated). looked b z.0.mine.part ≡ row_actor b.settings z.0.mine.part made) (sym is) tie in
      subst (λ t. Doing settings m.0 (giving m.0 made b t (rest m.0.out)) 0 (OfBoard b)) says
      (subst (λ (q : Actor). Doing settings m.0 (gives_board m.0 q b m.0.mine.told (root_of b) (rest m.0.out)) 0 (OfBoard b)) same
      (look_gives settings m b last (found_after settings old m b p.live is f) (record (telling_same m.0.mine) { names = root_of b }) (tells_root m.0.actor m.0.mine b b)))

  pub look_told : (answer : Look) → answer ≡ look_of b → (table : TableId) (was : PassState) → record { sight = old.0; table = table } ≡ was → (new : Seated) → new ≡ (giving m.0 made b told (rest m.0.out), rest m.1) → Looks (seat_view was.sight) (seat_view new.0) answer
  look_told answer at table was same new gave =
      let x = found settings old m b p.live is f in
      let seen : new.0 ≡ giving m.0 made b told (rest m.0.out) = ap (λ (z : Seated). z.0) gave in
      let law = board_section settings old m b p.live is f (pass_rows old a row rows told p) look untold (λ c v w. IsTrue (w.named c.board.root) → Looks v w (look_of c.board)) looks_seated tt (λ z. looked z old.0.mine.part) (λ z. z) refl refl refl refl
      b refl made tie told p.told_is new.0 seen in
      told_of (λ v w. Looks v w answer) old.0 new.0 table was same
      (subst (Looks (seat_view old.0) (seat_view new.0)) (ap look_of x.board ∙ sym at) (law (subst (λ (z : BoardState). IsTrue ((seat_view new.0).named z.root)) (sym x.board) (root_seen m.0 new.0 made b told seen))))

  pub look_cells : (new : Seated) → new ≡ (giving m.0 made b told (rest m.0.out), rest m.1) → HasCells new.0.mine
  look_cells new gave = board_cells settings old m b p.live is f look tt (λ z. looked z old.0.mine.part) (λ z. z) refl refl b refl made tie told new.0 (ap (λ (z : Seated). z.0) gave)
