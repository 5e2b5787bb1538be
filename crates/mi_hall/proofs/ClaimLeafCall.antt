-- A pass claims the leaf of a permutation.
use Rattle.std.proofs.Common.{◌≡◌, ℕ, List, [], ◌∷◌, length, Bool, true, IsTrue, sym, ap, ◌∙◌, subst, Option, None}
use Rattle.atomic_table.specs.Seated.{TableId}
use Rattle.atomic_table.specs.Table.{rest}
use Rattle.mi_base.specs.Configuration.{Configuration}
use Rattle.mi_board.specs.Boards.{BoardState}
use Rattle.mi_core.specs.State.{State}
use Rattle.mi_entries.specs.Records.{Rows}
use Rattle.mi_latch.specs.declared.slots.Slot.TheVariants.{OfBoard}
use Rattle.mi_latch.specs.Decided.{IsDecided}
use Rattle.mi_latch.specs.Found.{FoundBoard}
use Rattle.mi_latch.specs.Takes.{Finds, see_none, took}
use Rattle.mi_latch.specs.Views.{Doing, HoldsLast, Seated}
use Rattle.mi_solo.specs.declared.rows.ActorRow.{ActorRow}
use Rattle.mi_solo.specs.OnBoards.{TurnsBoard}
use Rattle.mi_hall.specs.Passes.{HasCells, IsPass, PassState, giving, row_actor}
use Rattle.mi_hall.specs.Seats.{seat_view}
use Rattle.mi_hall.specs.Places.{untold}
use Rattle.mi_hall.proofs.BoardSection.{found}
use Rattle.mi_hall.proofs.PassLemmas.{told_of}
use Rattle.mi_base.specs.Permutations.{begins, is_permutation}
use Rattle.mi_board.specs.Actors.{actor_at}
use Rattle.mi_board.specs.Boards.{leaf_claimed}
use Rattle.mi_core.specs.Events.{IsFree}
use Rattle.mi_solo.specs.BoardRows.{ClaimsRow}
use Rattle.mi_solo.proofs.BoardTurns.{claim_event, claim_is, claims_keep, claims_one, shown_free}
use Rattle.mi_tree.specs.declared.answers.LeafClaim.{LeafClaim}
use Rattle.mi_tree.specs.declared.answers.LeafClaim.TheVariants.{Held, Taken}
use Rattle.mi_tree.specs.Counting.{leaves_beginning}
use Rattle.mi_tree.specs.Legal.{cells_of}
use Rattle.mi_world.specs.Claims.{ClaimsLeaf}
use Rattle.mi_hall.proofs.BoardPlaces.{claims_held_seated, claims_leaf_seated}
use Rattle.mi_hall.proofs.PassLemmas.{found_settings}
use Rattle.mi_hall.proofs.RowCalls.{cells_so, gives_back, row_claim, row_record, tells_so}

-- other states don't matter to it
claims_decided : (b : BoardState) (claim : LeafClaim) (s c : State) → IsDecided (claim_event b claim) s c
claims_decided b (Taken leaf) s c = tt
claims_decided b (Held by) s c = tt

module _ (settings : Configuration) (old m : Seated) (a : ℕ) (row : ActorRow) (rows : Option Rows) (told : Bool) (b : BoardState) (p : IsPass old a row rows told) (is : m ≡ took see_none old 0 (OfBoard b)) (f : Finds settings old.0 0 (OfBoard b))
    (table : TableId) (was : PassState) (same : record { sight = old.0; table = table } ≡ was) (free : (seat_view was.sight).leaf ≡ None) (idle : (seat_view was.sight).sweep ≡ None) where
  abbrev x : FoundBoard settings old.0.actor old.0.mine old.0.out b
  x = found settings old m b p.live is f

  both : IsFree old.0.mine.part
  both = record {
    claim = ap (λ (z : PassState). (seat_view z.sight).leaf) same ∙ free;
    sweep = shown_free old.0.mine.part.sweep (ap (λ (z : PassState). (seat_view z.sight).sweep) same ∙ idle);
  }

  pub claim_free : (actor_at b.actors a).claim ≡ None
  claim_free = row_claim settings old m a row rows told b p is f ∙ both.claim

  module _ (perm : List ℕ) (long : length perm ≡ length (seat_view was.sight).settings.pivots) where
    pub claim_long : length perm ≡ length b.settings.pivots
    claim_long = long ∙ ap (λ (z : PassState). length (seat_view z.sight).settings.pivots) (sym same) ∙ ap (λ (c : Configuration). length c.pivots) (sym (found_settings settings old b p.live f))

    module _ (made : ActorRow) (board : BoardState) (claim : LeafClaim) (d : ClaimsRow a perm claim b row board made) where
      found_so : ClaimsRow old.0.actor perm claim x.core.board row board made
      found_so = subst (λ i. ClaimsRow i perm claim x.core.board row board made) (sym p.actor_is) (subst (λ (z : BoardState). ClaimsRow a perm claim z row board made) (sym x.board) d)

      turns : TurnsBoard x.core old.0.actor (row_actor x.core.board.settings old.0.mine.part row) (claim_event x.core.board claim) board (row_actor board.settings old.0.mine.part made)
      turns = claim_is x.core old.0.actor old.0.mine.part.own row made board (subst IsFree (row_record settings old m a row rows told b p is f) both) perm claim found_so

      pub claims_does : HoldsLast m 0 (OfBoard b) → Doing settings m.0 (giving m.0 made board told (rest m.0.out)) 0 (OfBoard board)
      claims_does = gives_back settings old m a row rows told b p is f made board (claim_event x.core.board claim) turns (claims_keep a b board row made perm claim d).0 (claims_decided x.core.board claim x.core)

      pub claims_cells : (new : Seated) → new ≡ (giving m.0 made board told (rest m.0.out), rest m.1) → HasCells new.0.mine
      claims_cells = cells_so settings old m a row rows told b p is f made board (claim_event x.core.board claim) turns (claims_keep a b board row made perm claim d).0 told

    module _ (made : ActorRow) (board : BoardState) (permutes : IsTrue (is_permutation perm)) (new : Seated) (gave : new ≡ (giving m.0 made board told (rest m.0.out), rest m.1)) where
      tells : (claim : LeafClaim) → ClaimsRow a perm claim b row board made → ClaimsLeaf (seat_view old.0) (seat_view new.0) perm claim
      tells (Taken leaf) d = tells_so settings old m a row rows told b p is f made board (claim_event x.core.board (Taken leaf)) (turns made board (Taken leaf) d) (claims_keep a b board row made perm (Taken leaf) d).0 told new gave untold
          (λ c v w. (perm : List ℕ) → leaves_beginning perm (cells_of c.board.settings c.board.log) ≡ leaf ∷ [] → ClaimsLeaf v w perm (Taken leaf)) (claims_leaf_seated leaf) p.told_is perm (found_so made board (Taken leaf) d).0.0
      tells (Held by) d =
          let one = claims_one perm (actor_at x.core.board.actors by).claim (found_so made board (Held by) d).0.1.1.0 in
          tells_so settings old m a row rows told b p is f made board (claim_event x.core.board (Held by)) (turns made board (Held by) d) (claims_keep a b board row made perm (Held by) d).0 told new gave untold
          (λ c v w. (perm : List ℕ) → IsTrue (is_permutation perm) → length perm ≡ length c.board.settings.pivots → begins (leaf_claimed x.core.board by) perm ≡ true → v.leaf ≡ None → ClaimsLeaf v w perm (Held by))
          (claims_held_seated (leaf_claimed x.core.board by) by) p.told_is perm permutes (subst (λ (z : BoardState). length perm ≡ length z.settings.pivots) (sym x.board) claim_long) one.1 both.claim

      pub claims_told : (claim : LeafClaim) → ClaimsRow a perm claim b row board made → ClaimsLeaf (seat_view was.sight) (seat_view new.0) perm claim
      claims_told claim d = told_of (λ v w. ClaimsLeaf v w perm claim) old.0 new.0 table was same (tells claim d)
