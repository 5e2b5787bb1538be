-- A pass gives its split up.
use Rattle.std.proofs.Common.{◌≡◌, ◌≢◌, ℕ, List, length, Bool, IsTrue, refl, sym, ap, ◌∙◌, subst, Option, Some, None}
use Rattle.std.specs.Prelude.{IsSome}
use Rattle.std.specs.List.{list_any}
use Rattle.std.proofs.lemmas.Option.{none-some}
use Rattle.atomic_table.specs.Seated.{TableId}
use Rattle.atomic_table.specs.Table.{rest}
use Rattle.mi_base.specs.Configuration.{Configuration}
use Rattle.mi_board.specs.Actors.{actor_at}
use Rattle.mi_board.specs.Boards.{BoardState, given_up}
use Rattle.mi_core.specs.Effects.{saw}
use Rattle.mi_core.specs.Events.{Can}
use Rattle.mi_core.specs.Events.Event.{give_up}
use Rattle.mi_core.specs.State.{State, board_actor}
use Rattle.mi_entries.specs.Actors.{Actor}
use Rattle.mi_entries.specs.Records.{Rows}
use Rattle.mi_latch.specs.declared.slots.Slot.TheVariants.{OfBoard}
use Rattle.mi_latch.specs.Boards.{root_of, telling_same}
use Rattle.mi_latch.specs.Found.{FoundBoard}
use Rattle.mi_latch.specs.Takes.{Finds, see_none, took}
use Rattle.mi_latch.specs.Views.{Doing, HoldsLast, Seated, Sight}
use Rattle.mi_latch.proofs.BoardSections.{give_up_gives}
use Rattle.mi_latch.proofs.BoardTold.{tells_root}
use Rattle.mi_solo.specs.declared.rows.ActorRow.{ActorRow}
use Rattle.mi_solo.proofs.GatheredLemmas.{may_give_up}
use Rattle.mi_tree.specs.Cells.{same_cell}
use Rattle.mi_world.specs.Splits.{GivesUp, copied_in}
use Rattle.mi_world.specs.View.{prefix_or}
use Rattle.mi_hall.specs.Passes.{HasCells, IsPass, PassState, giving, row_actor}
use Rattle.mi_hall.specs.Places.{IsBacked, untold}
use Rattle.mi_hall.specs.Seats.{seat_view}
use Rattle.mi_hall.proofs.BoardPlaces.{gives_up_seated}
use Rattle.mi_hall.proofs.BoardSection.{board_cells, board_section, call_does, found, found_after, found_backs, passed_noted}
use Rattle.mi_hall.proofs.PassLemmas.{pass_rows, row_found, told_of}
use Rattle.mi_hall.proofs.SeatConditions.{knows_backed}

module _ (settings : Configuration) (old m : Seated) (a : ℕ) (row : ActorRow) (rows : Option Rows) (told : Bool) (b : BoardState) (p : IsPass old a row rows told) (is : m ≡ took see_none old 0 (OfBoard b)) (f : Finds settings old.0 0 (OfBoard b))
    (table : TableId) (was : PassState) (same : record { sight = old.0; table = table } ≡ was) (pages : Bool)
    (claimed : IsSome (seat_view was.sight).leaf) (none : copied_in (seat_view was.sight) ≡ 0) (wanting : IsTrue pages → IsTrue (seat_view was.sight).told) where
  abbrev x : FoundBoard settings old.0.actor old.0.mine old.0.out b
  x = found settings old m b p.live is f

  abbrev r : Actor
  r = old.0.mine.part

  sight_is : was.sight ≡ old.0
  sight_is = ap (λ (z : PassState). z.sight) (sym same)

  backed : IsBacked x.core old.0
  backed = found_backs settings old.0 b x (pass_rows old a row rows told p)

  can : Can x.core old.0.actor old.0.mine.part (give_up pages)
  can = may_give_up x.core backed.kept old.0.actor r backed.fits.part pages (subst (λ (v : Sight). IsSome (seat_view v).leaf) sight_is claimed) (subst (λ (v : Sight). copied_in (seat_view v) ≡ 0) sight_is none)
      (λ e. (knows_backed x.core old.0 backed).told (subst (λ (v : Sight). IsTrue (seat_view v).told) sight_is (wanting e)))

  -- the leaf that it claims
  leaf : (q : List ℕ) × (old.0.mine.part.claim ≡ Some q)
  leaf = (can.0, can.1)

  -- the event can be in any state with this board
  can_on : (c : State) → c.board ≡ b → Can c old.0.actor old.0.mine.part (give_up pages)
  can_on c e = (can.0, can.1, can.2, λ h. subst (λ (z : BoardState). z.allotted ≡ z.settings.pages) (x.board ∙ sym e) (can.3 h))

  pub give_up_full : IsTrue pages → b.allotted ≡ b.settings.pages
  give_up_full h = subst (λ (z : BoardState). z.allotted ≡ z.settings.pages) x.board (can.3 h)

  pub give_up_claims : (actor_at b.actors a).claim ≢ None
  give_up_claims free =
      let holds = (x.held.kept.sound.each old.0.actor r x.fits.part).holds in
      let here : (actor_at b.actors a).claim ≡ old.0.mine.part.claim = ap (λ i. (actor_at b.actors i).claim) (sym p.actor_is) ∙ ap (λ (z : BoardState). (board_actor z old.0.actor).claim) (sym x.board) ∙ holds.claim in
      none-some leaf.0 (sym free ∙ here ∙ leaf.1)

  module _ (made : ActorRow) (board : BoardState) (given : board ≡ given_up pages a b) (is_made : made ≡ record row { seen = length board.log; claim = None; split = None }) where
    abbrev to : BoardState → Actor → Actor
    to z q = record (saw z q) { claim = None; split = None }

    pub give_up_shard : made.shard ≡ row.shard
    give_up_shard = ap (λ (z : ActorRow). z.shard) is_made

    pub give_up_fresh : made.hand.fresh ≡ row.hand.fresh
    give_up_fresh = ap (λ (z : ActorRow). z.hand.fresh) is_made

    pub give_up_root : board.root ≡ b.root
    give_up_root = ap (λ (z : BoardState). z.root) given

    back : board ≡ given_up pages old.0.actor b
    back = given ∙ ap (λ i. given_up pages i b) (sym p.actor_is)

    tie : to b old.0.mine.part ≡ row_actor board.settings old.0.mine.part made
    tie = ap (to b) (row_found settings old a row rows told b p f)
        ∙ ap (λ (z : BoardState). row_actor z.settings old.0.mine.part (record row { seen = length z.log; claim = None; split = None })) (sym given) ∙ ap (row_actor board.settings old.0.mine.part) (sym is_made)

    pub give_up_does : HoldsLast m 0 (OfBoard b) → Doing settings m.0 (giving m.0 made board told (rest m.0.out)) 0 (OfBoard board)
    give_up_does last =
        let y = found_after settings old m b p.live is f in
        call_does settings m (to b m.0.mine.part) (given_up pages m.0.actor b) board made m.0.mine.told told
        (give_up_gives settings m b last y (record (telling_same m.0.mine) { names = root_of b }) pages (subst (λ (z : Seated). Can y.core z.0.actor z.0.mine.part (give_up pages)) (sym is) (can_on y.core y.board)) (tells_root m.0.actor m.0.mine b (given_up pages m.0.actor b)))
        (back ∙ ap (λ (z : Seated). given_up pages z.0.actor b) (sym is)) (subst (λ (z : Seated). to b z.0.mine.part ≡ row_actor board.settings z.0.mine.part made) (sym is) tie) (ap (λ (z : Seated). z.0.mine.told) is ∙ p.told_is)

    pub give_up_told : (new : Seated) → new ≡ (giving m.0 made board told (rest m.0.out), rest m.1) → GivesUp (seat_view was.sight) (seat_view new.0) pages
    give_up_told new gave = told_of (λ v w. GivesUp v w pages) old.0 new.0 table was same
        (board_section settings old m b p.live is f (pass_rows old a row rows told p) (give_up pages) untold
        (λ c v w. list_any (same_cell (prefix_or v.leaf)) c.board.passed_over ≡ v.passed (prefix_or v.leaf) → GivesUp v w pages) (gives_up_seated pages) can (λ z. to z old.0.mine.part) (given_up pages old.0.actor) refl refl refl refl
        board back made tie told p.told_is new.0 (ap (λ (z : Seated). z.0) gave) (passed_noted x.core old.0.actor old.0.mine leaf.0 x.fits leaf.1))

    pub give_up_cells : (new : Seated) → new ≡ (giving m.0 made board told (rest m.0.out), rest m.1) → HasCells new.0.mine
    give_up_cells new gave = board_cells settings old m b p.live is f (give_up pages) can (λ z. to z old.0.mine.part) (given_up pages old.0.actor) refl refl board back made tie told new.0 (ap (λ (z : Seated). z.0) gave)
