-- Sections of the board with a page and the rows of a shard in hand, from a pass's takes to its gives.
use Rattle.std.proofs.Common.{◌≡◌, ℕ, ◌+◌, ◌<◌, List, [], ◌∷◌, Bool, cond, refl, sym, ap, ◌∙◌, subst, eq-eqb, Option, Some, inl, inr}
use Rattle.std.specs.Prelude.{slice_get, slice_set}
use Rattle.std.proofs.lemmas.Option.{same_Some}
use Rattle.atomic_table.specs.Table.{rest}
use Rattle.mi_base.specs.Configuration.{Configuration}
use Rattle.mi_base.specs.History.{Entered, at_position}
use Rattle.mi_board.specs.Boards.{BoardState}
use Rattle.mi_core.specs.Actors.{Suits, made_by}
use Rattle.mi_core.specs.Events.{Can, Event, after}
use Rattle.mi_core.specs.Kept.{Kept}
use Rattle.mi_core.specs.State.{State, node_at}
use Rattle.mi_core.proofs.ActorLemmas.{set_there}
use Rattle.mi_core.proofs.KeptEvents.{each_keeps}
use Rattle.mi_entries.specs.Actors.{Actor}
use Rattle.mi_entries.specs.Records.{Rows, no_shard, shard_at}
use Rattle.mi_latch.specs.declared.slots.Slot.{Slot}
use Rattle.mi_latch.specs.declared.slots.Slot.TheVariants.{OfBoard, OfPage, OfShard, Vacant}
use Rattle.mi_latch.specs.Boths.{HoldsBoth, HoldsCommit}
use Rattle.mi_latch.specs.Found.{FoundBoard}
use Rattle.mi_latch.specs.Shows.{Has, HasKey}
use Rattle.mi_latch.specs.Takes.{Finds, see_none, took}
use Rattle.mi_latch.specs.Views.{Doing, HoldsLast, Seated}
use Rattle.mi_latch.proofs.BoardTold.{found_board}
use Rattle.mi_latch.proofs.Ones.{of_page, of_rows, read_page, read_shard}
use Rattle.mi_page.specs.Nodes.{Node}
use Rattle.mi_solo.specs.declared.rows.ActorRow.{ActorRow}
use Rattle.mi_solo.specs.States.{actor_of}
use Rattle.mi_tree.specs.Legal.{cells_of}
use Rattle.mi_world.specs.View.{View}
use Rattle.mi_hall.specs.Commits.{commits_to, committing}
use Rattle.mi_hall.specs.Passes.{AreNear, HasCells, HasOut, IsPass, row_actor}
use Rattle.mi_hall.specs.Places.{BothMake, HasRows, IsBacked, gives_both}
use Rattle.mi_hall.specs.Seats.{rows_out, seat_view}
use Rattle.mi_hall.proofs.PassLemmas.{pass_rows}

-- the seat with the page and the board out
abbrev pub holding_both : Seated → ℕ → Node → BoardState → Seated
holding_both start page had b = took see_none (took see_none start (page + 17) (OfPage had)) 0 (OfBoard b)

-- both takes found what they should
pub record TakenBoth (settings : Configuration) (start m : Seated) (page : ℕ) (had : Node) (b : BoardState) : Type 0 where
  pub is : m ≡ holding_both start page had b
  pub found : Finds settings (took see_none start (page + 17) (OfPage had)).0 0 (OfBoard b)
  pub last : HoldsLast m 0 (OfBoard b)
  pub apart : HasKey start.0.out (page + 17) → ⊥

pub taken_both : (settings : Configuration) (start first second : Seated) (page : ℕ) (had : Node) (b : BoardState) → first ≡ took see_none start (page + 17) (OfPage had) → HoldsLast first (page + 17) (OfPage had)
    → second ≡ took see_none first 0 (OfBoard b) → Finds settings first.0 0 (OfBoard b) → HoldsLast second 0 (OfBoard b) → TakenBoth settings start second page had b
taken_both settings start first second page had b one kept two f last = record {
  is = two ∙ ap (λ (z : Seated). took see_none z 0 (OfBoard b)) one;
  found = subst (λ (z : Seated). Finds settings z.0 0 (OfBoard b)) one f;
  last = last;
  apart = subst (λ (z : Seated). HasKey (rest z.0.out) (page + 17) → ⊥) one kept.others;
}

module _ (settings : Configuration) (start m : Seated) (page k : ℕ) (had : Node) (b : BoardState) (a : ℕ) (row : ActorRow) (x : Rows) (told : Bool) (p : IsPass start a row (Some x) told) (held : row.shard ≡ Some k)
    (t : TakenBoth settings start m page had b) where
  abbrev r : Actor
  r = start.0.mine.part

  abbrev pub both : Seated
  both = holding_both start page had b

  shard_is : start.0.mine.part.shard ≡ Some k
  shard_is = ap (λ (z : Actor). z.shard) p.row_is ∙ held

  outs : (start.0.out ≡ (k + 1, OfShard x) ∷ []) × (start.1 ≡ (k + 1, Vacant) ∷ [])
  outs = subst (λ (o : Option ℕ). HasOut o (Some x) start.0.out start.1) shard_is p.out

  pub shard_out : start.0.out ≡ (k + 1, OfShard x) ∷ []
  shard_out = outs.0

  pub found_both : FoundBoard settings start.0.actor start.0.mine ((page + 17, OfPage had) ∷ start.0.out) b
  found_both = found_board settings (took see_none start (page + 17) (OfPage had)).0 b p.live t.found

  abbrev c : State
  c = found_both.core

  suits : Suits found_both.core.board found_both.core.shards found_both.core.pages start.0.actor start.0.mine.part
  suits = found_both.held.kept.sound.each start.0.actor start.0.mine.part found_both.fits.part

  pub near_shard : k < 16
  near_shard = (suits.holds.shard k shard_is).0

  pub page_here : node_at found_both.core.pages page ≡ Some had
  page_here = of_page (node_at found_both.core.pages page) had (sym (read_page found_both.core page found_both.held.kept.sound.sixteen) ∙ found_both.values (page + 17) (OfPage had) (inl (refl, refl)))

  pub rows_here : (shard_at found_both.core.shards k).rows ≡ x
  rows_here =
      let it : Has start.0.out (k + 1) (OfShard x) = subst (λ o. Has o (k + 1) (OfShard x)) (sym outs.0) (inl (refl, refl)) in
      of_rows (shard_at found_both.core.shards k) x (sym (read_shard found_both.core k found_both.held.kept.sound.sixteen near_shard) ∙ found_both.values (k + 1) (OfShard x) (inr it))

  pub both_backs : IsBacked found_both.core start.0
  both_backs = record {
    kept = found_both.held.kept;
    fits = found_both.fits;
    going = found_both.going;
    rows = λ n e. sym (of_rows (shard_at found_both.core.shards n) (rows_out start.0.out n) (sym (read_shard found_both.core n found_both.held.kept.sound.sixteen (suits.holds.shard n e).0)
        ∙ found_both.values (n + 1) _ (inr (pass_rows start a row (Some x) told p n e))));
  }

  -- its row stands for its record, by the board that it found
  pub row_there : start.0.mine.part ≡ actor_of b.settings b.log start.0.actor row
  row_there =
      let same : b.settings ≡ start.0.mine.note.board.settings = ap (λ (z : BoardState). z.settings) (sym found_both.board) ∙ found_both.fits.knows.note.settings in
      let own : start.0.mine.part.own ≡ made_by start.0.actor b.log = sym suits.own ∙ ap (λ (z : BoardState). made_by start.0.actor z.log) found_both.board in
      p.row_is ∙ ap (λ s. row_actor s r row) (sym same) ∙ ap (λ (o : List Entered). let z : Actor = record (actor_of b.settings [] 0 row) { own = o } in z) own

  pub holds_commit : HoldsCommit both b page had k x
  holds_commit = record { last = subst (λ z. HoldsLast z 0 (OfBoard b)) t.is t.last; also = ap (λ o. (page + 17, OfPage had) ∷ o) outs.0; shard = shard_is }

  pub holds_both : HoldsBoth both b (page + 17) (OfPage had) start.0.out
  holds_both = record { last = subst (λ z. HoldsLast z 0 (OfBoard b)) t.is t.last; also = refl; apart = t.apart }

  pub commit_out : HoldsCommit m b page had k x
  commit_out = subst (λ z. HoldsCommit z b page had k x) (sym t.is) holds_commit

  pub page_out : rest m.1 ≡ (page + 17, Vacant) ∷ rest (rest m.1)
  page_out = subst (λ (z : Seated). rest z.1 ≡ (page + 17, Vacant) ∷ rest (rest z.1)) (sym t.is) refl

  module _ (made : ActorRow) (board : BoardState) (n : Node) (left : Rows) where
    -- the give of a board as the seat's row and what is in hand have it
    pub commit_gives : (to : Actor) (out : List (ℕ × Slot)) → out ≡ (page + 17, OfPage n) ∷ (k + 1, OfShard left) ∷ [] → to ≡ actor_of board.settings board.log start.0.actor made
        → Doing settings both.0 (gives_both both.0 to board n [] out) 0 (OfBoard board) → Doing settings m.0 (committing m.0 made board page n k left) 0 (OfBoard board)
    commit_gives to out outs_are tie does =
        subst (λ (z : Seated). Doing settings z.0 (committing z.0 made board page n k left) 0 (OfBoard board)) (sym t.is)
        (subst (λ (q : Actor). Doing settings both.0 (gives_both both.0 q board n [] ((page + 17, OfPage n) ∷ (k + 1, OfShard left) ∷ [])) 0 (OfBoard board)) tie
        (subst (λ o. Doing settings both.0 (gives_both both.0 to board n [] o) 0 (OfBoard board)) outs_are does))

    module _ (new : Seated) (gave : new ≡ (commits_to m.0 made board n k left, rest (rest m.1))) where
      -- what it knows then, by what it knew before the takes
      commit_ends : new ≡ (commits_to start.0 made board n k left, start.1)
      commit_ends = gave ∙ ap (λ (z : Seated). let y : Seated = (commits_to z.0 made board n k left, rest (rest z.1)) in y) t.is

      -- it is a pass again
      pub commit_pass : made.shard ≡ row.shard → IsPass new a made (Some left) told
      commit_pass shard = subst (λ z. IsPass z a made (Some left) told) (sym commit_ends) (record {
        live = refl;
        actor_is = p.actor_is;
        row_is = refl;
        told_is = p.told_is;
        out = subst (λ (o : Option ℕ). HasOut o (Some left) ((k + 1, OfShard left) ∷ []) start.1) (sym (shard ∙ held)) (refl, outs.1);
        unborn = p.unborn;
      })

      pub commit_near : (words : ℕ) → AreNear words start.0.mine.named → AreNear words new.0.mine.named
      commit_near words near = subst (λ (z : Seated). AreNear words z.0.mine.named) (sym commit_ends) near

      -- an event of what is in hand, which makes this board and this record of its actor's
      module _ (e : Event) (can : Can found_both.core start.0.actor start.0.mine.part e) (to : BoardState → Actor) (g : BoardState → BoardState)
          (actors : (after found_both.core start.0.actor start.0.mine.part e).actors ≡ slice_set found_both.core.actors start.0.actor (to found_both.core.board)) (boards : (after found_both.core start.0.actor start.0.mine.part e).board ≡ g found_both.core.board)
          (given : board ≡ g b) (tie : to b ≡ actor_of board.settings board.log start.0.actor made) where
        abbrev d : State
        d = after found_both.core start.0.actor start.0.mine.part e

        there : slice_get (after found_both.core start.0.actor start.0.mine.part e).actors start.0.actor ≡ Some (to found_both.core.board)
        there = ap (λ l. slice_get l start.0.actor) actors ∙ set_there c.actors start.0.actor (to c.board) r found_both.fits.part

        back : (after found_both.core start.0.actor start.0.mine.part e).board ≡ board
        back = boards ∙ ap g found_both.board ∙ sym given

        same : to found_both.core.board ≡ actor_of board.settings board.log start.0.actor made
        same = ap to found_both.board ∙ tie

        -- makes of its view what it makes of any
        pub commit_tells : (rel : State → View → View → Type 0) → BothMake e rel → node_at (after found_both.core start.0.actor start.0.mine.part e).pages (to found_both.core.board).page ≡ Some n
            → (shard_at (after found_both.core start.0.actor start.0.mine.part e).shards k).rows ≡ left → (to found_both.core.board).shard ≡ start.0.mine.part.shard → rel found_both.core (seat_view start.0) (seat_view new.0)
        commit_tells rel law on left_is shard =
            let out : List (ℕ × Slot) = (k + 1, OfShard left) ∷ [] in
            let q : Actor = to c.board in
            let rows : HasRows d (gives_both start.0 q d.board n [] out) = λ j h.
            let is : k ≡ j = same_Some k j (sym shard_is ∙ sym shard ∙ h) in
            let found : left ≡ rows_out out j = ap (λ z. cond z left no_shard.rows) (sym (eq-eqb (k + 1) (j + 1) (ap (λ i. i + 1) is))) in
            sym found ∙ sym left_is ∙ ap (λ i. (shard_at d.shards i).rows) is in
            let is_new : new.0 ≡ gives_both start.0 q d.board n [] out = ap (λ (z : Seated). z.0) commit_ends ∙ ap (λ z. gives_both start.0 z board n [] out) (sym same) ∙ ap (λ z. gives_both start.0 q z n [] out) (sym back) in
            subst (λ z. rel c (seat_view start.0) (seat_view z)) (sym is_new) (law c start.0 both_backs can q there n on [] (λ z one. absurd one) out rows)

        -- and leaves the cells of its pin
        pub commit_cells : HasCells new.0.mine
        commit_cells =
            let kept : Kept d = each_keeps e c found_both.held.kept start.0.actor r found_both.fits.part found_both.going can in
            subst (λ (z : Seated). HasCells z.0.mine) (sym commit_ends)
            (λ q h. (let y = (kept.sound.each start.0.actor (to c.board) there).saw.pin q (ap (λ (z : Actor). z.pin) same ∙ h) in y.1 ∙ ap (λ (z : BoardState). cells_of z.settings (at_position z.log q.at)) back))
