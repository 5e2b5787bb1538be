-- A pass lets go of its leaf.
use Rattle.std.proofs.Common.{◌≡◌, ◌≢◌, ℕ, List, length, Bool, refl, sym, ap, ◌∙◌, subst, Option, Some, None, false}
use Rattle.std.specs.Prelude.{IsSome}
use Rattle.std.specs.List.{list_any}
use Rattle.std.proofs.lemmas.Option.{none-some}
use Rattle.atomic_table.specs.Seated.{TableId}
use Rattle.atomic_table.specs.Table.{rest}
use Rattle.mi_base.specs.Configuration.{Configuration}
use Rattle.mi_board.specs.Actors.{actor_at, without_claim}
use Rattle.mi_board.specs.Boards.{BoardState, with_actor}
use Rattle.mi_core.specs.Effects.{saw}
use Rattle.mi_core.specs.Events.{Can}
use Rattle.mi_core.specs.Events.Event.{release_leaf}
use Rattle.mi_entries.specs.Actors.{Actor}
use Rattle.mi_entries.specs.Records.{Rows}
use Rattle.mi_latch.specs.declared.slots.Slot.TheVariants.{OfBoard}
use Rattle.mi_latch.specs.Boards.{root_of, telling_same}
use Rattle.mi_latch.specs.Found.{FoundBoard}
use Rattle.mi_latch.specs.Takes.{Finds, see_none, took}
use Rattle.mi_latch.specs.Views.{Doing, HoldsLast, Seated}
use Rattle.mi_latch.proofs.BoardSections.{release_gives}
use Rattle.mi_latch.proofs.BoardTold.{tells_root}
use Rattle.mi_solo.specs.declared.rows.ActorRow.{ActorRow}
use Rattle.mi_solo.proofs.CoreLemmas.{some_of}
use Rattle.mi_tree.specs.Cells.{same_cell}
use Rattle.mi_world.specs.Claims.{ReleasesLeaf}
use Rattle.mi_world.specs.View.{prefix_or}
use Rattle.mi_hall.specs.Passes.{HasCells, IsPass, PassState, giving, row_actor}
use Rattle.mi_hall.specs.Places.{untold}
use Rattle.mi_hall.specs.Seats.{seat_view}
use Rattle.mi_hall.proofs.BoardPlaces.{releases_leaf_seated}
use Rattle.mi_hall.proofs.BoardSection.{board_cells, board_section, found, passed_noted}
use Rattle.mi_hall.proofs.PassLemmas.{pass_rows, row_found, told_of}
use Rattle.mi_hall.proofs.RowCalls.{row_claim, row_does, split_none}

module _ (settings : Configuration) (old m : Seated) (a : ℕ) (row : ActorRow) (rows : Option Rows) (told : Bool) (b : BoardState) (p : IsPass old a row rows told) (is : m ≡ took see_none old 0 (OfBoard b)) (f : Finds settings old.0 0 (OfBoard b))
    (table : TableId) (was : PassState) (same : record { sight = old.0; table = table } ≡ was) (some : IsSome (seat_view was.sight).leaf) (whole : (seat_view was.sight).splitting ≡ false) where
  abbrev x : FoundBoard settings old.0.actor old.0.mine old.0.out b
  x = found settings old m b p.live is f

  claimed : (leaf : List ℕ) × (old.0.mine.part.claim ≡ Some leaf)
  claimed = some_of old.0.mine.part.claim (subst (λ (z : PassState). IsSome (seat_view z.sight).leaf) (sym same) some)

  can : Can x.core old.0.actor old.0.mine.part release_leaf
  can = (claimed.0, claimed.1, split_none old.0.mine.part.split (subst (λ (z : PassState). (seat_view z.sight).splitting ≡ false) (sym same) whole))

  pub release_claims : (actor_at b.actors a).claim ≢ None
  release_claims none = none-some claimed.0 (sym none ∙ row_claim settings old m a row rows told b p is f ∙ claimed.1)

  module _ (made : ActorRow) (board : BoardState) (given : board ≡ with_actor without_claim a b) (is_made : made ≡ record row { seen = length board.log; claim = None }) where
    abbrev to : BoardState → Actor
    to z = record (saw z old.0.mine.part) { claim = None }

    back : board ≡ with_actor without_claim old.0.actor b
    back = given ∙ ap (λ i. with_actor without_claim i b) (sym p.actor_is)

    tie : to b ≡ row_actor board.settings old.0.mine.part made
    tie = ap (λ (r : Actor). record (saw b r) { claim = None }) (row_found settings old a row rows told b p f)
        ∙ ap (λ (z : BoardState). row_actor z.settings old.0.mine.part (record row { seen = length z.log; claim = None })) (sym given) ∙ ap (row_actor board.settings old.0.mine.part) (sym is_made)

    pub release_does : HoldsLast m 0 (OfBoard b) → Doing settings m.0 (giving m.0 made board told (rest m.0.out)) 0 (OfBoard board)
    release_does = row_does settings old m a row rows told b p is f made board (with_actor without_claim old.0.actor b) (to b) back tie
        (λ last. release_gives settings (took see_none old 0 (OfBoard b)) b last x (record (telling_same old.0.mine) { names = root_of b }) can (tells_root old.0.actor old.0.mine b (with_actor without_claim old.0.actor b)))

    pub release_told : (new : Seated) → new ≡ (giving m.0 made board told (rest m.0.out), rest m.1) → ReleasesLeaf (seat_view was.sight) (seat_view new.0)
    release_told new gave = told_of (λ v w. ReleasesLeaf v w) old.0 new.0 table was same
        (board_section settings old m b p.live is f (pass_rows old a row rows told p) release_leaf untold
        (λ c v w. list_any (same_cell (prefix_or v.leaf)) c.board.passed_over ≡ v.passed (prefix_or v.leaf) → ReleasesLeaf v w) releases_leaf_seated can to (with_actor without_claim old.0.actor) refl refl refl refl
        board back made tie told p.told_is new.0 (ap (λ (z : Seated). z.0) gave) (passed_noted x.core old.0.actor old.0.mine claimed.0 x.fits claimed.1))

    pub release_cells : (new : Seated) → new ≡ (giving m.0 made board told (rest m.0.out), rest m.1) → HasCells new.0.mine
    release_cells new gave = board_cells settings old m b p.live is f release_leaf can to (with_actor without_claim old.0.actor) refl refl board back made tie told new.0 (ap (λ (z : Seated). z.0) gave)
