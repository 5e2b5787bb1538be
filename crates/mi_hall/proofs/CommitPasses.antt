-- A commit by a pass: the board is taken while the page and the rows of the shard are in hand, its give is the event, and the page goes back after it.
use Rattle.std.proofs.Common.{◌≡◌, ⊎_elim, inl, inr, ℕ, ◌+◌, ◌<◌, List, [], ◌∷◌, ◌++◌, length, Bool, cond, refl, sym, ap, ◌∙◌, subst, arith, Some, eq-eqb}
use Rattle.std.specs.Prelude.{slice_get}
use Rattle.std.proofs.lemmas.Option.{same_Some}
use Rattle.atomic_table.specs.Table.{rest}
use Rattle.mi_base.specs.Configuration.{Configuration}
use Rattle.mi_base.specs.History.{Entered, at_position}
use Rattle.mi_board.specs.Boards.{BoardState}
use Rattle.mi_core.specs.Actors.{made_by}
use Rattle.mi_core.specs.Effects.{noted}
use Rattle.mi_core.specs.Events.{Can, Event, after}
use Rattle.mi_core.specs.Events.Event.{visit}
use Rattle.mi_core.specs.Kept.{Kept}
use Rattle.mi_core.specs.State.{State, node_at}
use Rattle.mi_core.proofs.KeptEvents.{each_keeps}
use Rattle.mi_entries.specs.Actors.{Actor}
use Rattle.mi_entries.specs.Records.{Rows, no_shard, shard_at}
use Rattle.mi_latch.specs.declared.slots.Slot.{Slot}
use Rattle.mi_latch.specs.declared.slots.Slot.TheVariants.{OfBoard, OfPage, OfShard, Vacant}
use Rattle.mi_latch.specs.Boards.{Telling, seeing}
use Rattle.mi_latch.specs.Boths.{HoldsBoth, HoldsCommit}
use Rattle.mi_latch.specs.Found.{FoundBoard, MayTell}
use Rattle.mi_latch.specs.Naming.{names_of}
use Rattle.mi_latch.specs.PageSteps.{items_for}
use Rattle.mi_latch.specs.Shows.{Has, HasKey, Returns}
use Rattle.mi_latch.specs.Takes.{Finds, see_none, took}
use Rattle.mi_latch.specs.Views.{Doing, HoldsLast, Mine, Seated, Sight}
use Rattle.mi_latch.proofs.BoardMays.{page_found, rows_found}
use Rattle.mi_latch.proofs.BoardReturns.{returned_commit}
use Rattle.mi_latch.proofs.BoardTold.{found_board}
use Rattle.mi_latch.proofs.Ones.{of_rows, read_shard}
use Rattle.mi_latch.proofs.PageDoings.{page_does}
use Rattle.mi_latch.proofs.PageMakes.{visit_makes}
use Rattle.mi_latch.proofs.PageNames.{names_stand}
use Rattle.mi_page.specs.Nodes.{Node}
use Rattle.mi_solo.specs.declared.rows.ActorRow.{ActorRow}
use Rattle.mi_solo.specs.States.{actor_of}
use Rattle.mi_tree.specs.Legal.{cells_of}
use Rattle.mi_world.specs.View.{View}
use Rattle.mi_solo.specs.CommitRows.{IsAtHand}
use Rattle.mi_hall.specs.CommitRows.{giving_beside}
use Rattle.mi_hall.specs.Passes.{AreNear, HasCells, HasOut, IsPass, row_actor, turning}
use Rattle.mi_hall.specs.Places.{BothMake, HasRows, IsBacked, gives_both}
use Rattle.mi_hall.specs.Seats.{rows_out, seat_view}
use Rattle.mi_hall.proofs.NamedPages.{more_near}
use Rattle.mi_hall.proofs.PageSection.{turn_does}
use Rattle.mi_hall.proofs.PassLemmas.{pass_rows}

module _ (settings : Configuration) (start : Seated) (page : ℕ) (had : Node) (b : BoardState) (a : ℕ) (row : ActorRow) (x : Rows) (told : Bool) (k : ℕ) (p : IsPass start a row (Some x) told) (holds : start.0.mine.part.shard ≡ Some k)
    (f : Finds settings (took see_none start (page + 17) (OfPage had)).0 0 (OfBoard b)) (apart : HasKey start.0.out (page + 17) → ⊥) where
  abbrev r : Actor
  r = start.0.mine.part

  abbrev i : ℕ
  i = start.0.actor

  abbrev mine : Mine
  mine = start.0.mine

  -- the seat with the page and the board out
  abbrev m : Seated
  m = took see_none (took see_none start (page + 17) (OfPage had)) 0 (OfBoard b)

  pub found : FoundBoard settings start.0.actor start.0.mine ((page + 17, OfPage had) ∷ start.0.out) b
  found = found_board settings (took see_none start (page + 17) (OfPage had)).0 b p.live f

  outs : (start.0.out ≡ (k + 1, OfShard x) ∷ []) × (start.1 ≡ (k + 1, Vacant) ∷ [])
  outs = subst (λ o. HasOut o (Some x) start.0.out start.1) holds p.out

  pub here : node_at found.core.pages page ≡ Some had
  here = page_found settings i mine ((page + 17, OfPage had) ∷ start.0.out) b found page had (inl (refl, refl))

  near : k < 16
  near = ((found.held.kept.sound.each i r found.fits.part).holds.shard k holds).0

  pub shard_near : k < length found.core.shards
  shard_near = let many = found.held.kept.sound.sixteen in omega (arith, near, many)

  pub has_rows : (shard_at found.core.shards k).rows ≡ x
  has_rows = rows_found settings i mine ((page + 17, OfPage had) ∷ start.0.out) b found k x near (inr (subst (λ o. Has o (k + 1) (OfShard x)) (sym outs.0) (inl (refl, refl))))

  pub back : IsBacked found.core start.0
  back = record {
    kept = found.held.kept;
    fits = found.fits;
    going = found.going;
    rows = λ n e. (let low = ((found.held.kept.sound.each i r found.fits.part).holds.shard n e).0 in
        sym (of_rows (shard_at found.core.shards n) (rows_out start.0.out n) (sym (read_shard found.core n found.held.kept.sound.sixteen low) ∙ found.values (n + 1) _ (inr (pass_rows start a row (Some x) told p n e)))));
  }

  pub its_settings : b.settings ≡ start.0.mine.note.board.settings
  its_settings = ap (λ (z : BoardState). z.settings) (sym found.board) ∙ found.fits.knows.note.settings

  own_is : start.0.mine.part.own ≡ made_by start.0.actor b.log
  own_is = sym (found.held.kept.sound.each i r found.fits.part).own ∙ ap (λ (z : BoardState). made_by i z.log) found.board

  -- its record is its row, with the updates that the log has of it
  pub row_there : start.0.mine.part ≡ actor_of b.settings b.log start.0.actor row
  row_there = p.row_is ∙ ap (λ (c : Configuration). row_actor c r row) (sym its_settings) ∙ ap (λ (own : List Entered). record (actor_of b.settings [] 0 row) { own = own }) own_is

  abbrev pub in_hand : IsAtHand start.0.actor page k b had x row
  in_hand = record { state = found.core; kept = found.held.kept; part = start.0.mine.part; there = found.fits.part; row_is = row_there; board_is = found.board; page_is = here; rows_are = has_rows }

  pub holds_both : HoldsLast m 0 (OfBoard b) → HoldsBoth m b (page + 17) (OfPage had) start.0.out
  holds_both last = record { last = last; also = refl; apart = apart }

  pub holds_commit : HoldsLast m 0 (OfBoard b) → HoldsCommit m b page had k x
  holds_commit last = record { last = last; also = ap (λ (o : List (ℕ × Slot)). (page + 17, OfPage had) ∷ o) outs.0; shard = holds }

  pub outs_are : start.0.out ≡ (k + 1, OfShard x) ∷ []
  outs_are = outs.0

  -- nothing is told but that the page is noted
  abbrev pub telling : Actor → Node → Telling
  telling q n = record { told = start.0.mine.told; names = []; high = n.high; items = items_for q n }

  pub tells : (q : Actor) (n : Node) (board : BoardState) → MayTell start.0.actor start.0.mine b board (record { told = start.0.mine.told; names = []; high = n.high; items = items_for q n })
  tells q n board = record { told = λ h. inl h; named = λ c g y is z h. absurd h }

  module _ (board : BoardState) (n : Node) (kept : Rows) (made : ActorRow) where
    abbrev q : Actor
    q = actor_of board.settings board.log start.0.actor made

    -- where the actor stands after both gives
    abbrev pub ends : Sight
    ends = gives_both start.0 (actor_of board.settings board.log start.0.actor made) board n (names_of n) ((k + 1, OfShard kept) ∷ [])

    -- the event of the give of the board, and what it leaves
    pub record Commits (e : Event) : Type 0 where
      pub can : Can found.core start.0.actor start.0.mine.part e
      pub actor_is : slice_get (after found.core start.0.actor start.0.mine.part e).actors start.0.actor ≡ Some (actor_of board.settings board.log start.0.actor made)
      pub board_is : (after found.core start.0.actor start.0.mine.part e).board ≡ board
      pub page_is : node_at (after found.core start.0.actor start.0.mine.part e).pages page ≡ Some n
      pub rows_are : (shard_at (after found.core start.0.actor start.0.mine.part e).shards k).rows ≡ kept

    -- what the row and the page keep
    pub record Keeps : Type 0 where
      pub noted_is : made.page ≡ page
      pub shard_is : made.shard ≡ row.shard
      pub fresh_is : made.hand.fresh ≡ row.hand.fresh
      pub names_are : names_of n ≡ names_of had

    abbrev gives : Seated → Seated
    gives z = (giving_beside z.0 made board page n k kept, rest z.1)

    abbrev turns : Seated → Seated
    turns z = (turning z.0 made n, rest z.1)

    pub beside_returns : (z : Seated) → z ≡ m → HoldsLast z 0 (OfBoard b) → Returns z.0 (giving_beside z.0 made board page n k kept) 0
    beside_returns z is last = subst (λ (y : Seated). Returns y.0 (giving_beside y.0 made board page n k kept) 0) (sym is)
        (returned_commit m b page had n k x kept (seeing q board (telling q n) mine) (holds_commit (subst (λ y. HoldsLast y 0 (OfBoard b)) is last)))

    -- the page is the last one out then
    pub page_last : (z y : Seated) → z ≡ m → y ≡ (giving_beside z.0 made board page n k kept, rest z.1) → HoldsLast y (page + 17) (OfPage n)
    page_last z y is gave = subst (λ (w : Seated). HoldsLast w (page + 17) (OfPage n)) (sym (gave ∙ ap gives is)) (record {
      held = refl;
      live = refl;
      out = refl;
      others = λ h. ⊎_elim (λ g. apart (subst (λ o. HasKey o (page + 17)) (sym outs.0) (OfShard x, inl (g.0, refl)))) (λ g. absurd g) h.1;
    })

    -- and goes back as one that was visited
    pub page_goes : Keeps → (z y : Seated) → z ≡ m → y ≡ (giving_beside z.0 made board page n k kept, rest z.1) → Doing settings y.0 (turning y.0 made n) (page + 17) (OfPage n)
    page_goes keeps z y is gave =
        let w : Seated = gives m in
        let last : HoldsLast w (page + 17) (OfPage n) = page_last m w refl refl in
        let tie : noted page q ≡ row_actor board.settings q made = ap (λ (z : ℕ). record q { page = z }) (sym keeps.noted_is) in
        subst (λ (z : Seated). Doing settings z.0 (turning z.0 made n) (page + 17) (OfPage n)) (sym (gave ∙ ap gives is))
        (turn_does settings w page n n (noted page q) made last tie (page_does settings w page n n (noted page q) (names_of n) (visit page) last (visit_makes settings w.0.actor w.0.mine page n)))

    pub both_end : (z y new : Seated) → z ≡ m → y ≡ (giving_beside z.0 made board page n k kept, rest z.1) → new ≡ (turning y.0 made n, rest y.1) → new ≡ (ends, start.1)
    both_end z y new is gave went = went ∙ ap turns (gave ∙ ap gives is)

    -- it is a pass again
    pub ended_pass : Keeps → (new : Seated) → new ≡ (ends, start.1) → IsPass new a made (Some kept) told
    ended_pass keeps new is = subst (λ z. IsPass z a made (Some kept) told) (sym is) (record {
      live = refl;
      actor_is = p.actor_is;
      row_is = refl;
      told_is = p.told_is;
      out = subst (λ o. HasOut o (Some kept) ((k + 1, OfShard kept) ∷ []) start.1) (sym (keeps.shard_is ∙ ap (λ (z : Actor). z.shard) (sym p.row_is) ∙ holds)) (refl, outs.1);
      unborn = p.unborn;
    })

    pub ended_near : Keeps → (new : Seated) → new ≡ (ends, start.1) → (words : ℕ) → words ≡ settings.pages + 17 → AreNear words start.0.mine.named → AreNear words new.0.mine.named
    ended_near keeps new is words many near = subst (λ (z : Seated). AreNear words z.0.mine.named) (sym is)
        (subst (λ names. AreNear words (names ++ start.0.mine.named)) (sym keeps.names_are)
        (more_near settings found.core found.held words many (names_of had) start.0.mine.named (names_stand found.core found.held.kept.sound page had here) near))

    module _ (e : Event) (c : Commits e) where
      abbrev d : State
      d = after found.core start.0.actor start.0.mine.part e

      next : Kept (after found.core start.0.actor start.0.mine.part e)
      next = each_keeps e found.core found.held.kept i r found.fits.part found.going c.can

      pub ended_cells : (new : Seated) → new ≡ (ends, start.1) → HasCells new.0.mine
      ended_cells new is = subst (λ (z : Seated). HasCells z.0.mine) (sym is)
          (λ w h. (let y = (next.sound.each i q c.actor_is).saw.pin w h in y.1 ∙ ap (λ (z : BoardState). cells_of z.settings (at_position z.log w.at)) c.board_is))

      left : Keeps → HasRows (after found.core start.0.actor start.0.mine.part e) (gives_both start.0 (actor_of board.settings board.log start.0.actor made) (after found.core start.0.actor start.0.mine.part e).board n (names_of n) ((k + 1, OfShard kept) ∷ []))
      left keeps j h =
          let one : k ≡ j = same_Some k j (sym holds ∙ ap (λ (z : Actor). z.shard) p.row_is ∙ sym keeps.shard_is ∙ h) in
          subst (λ t. rows_out ((k + 1, OfShard kept) ∷ []) t ≡ (shard_at d.shards t).rows) one (ap (λ t. cond t kept no_shard.rows) (eq-eqb (k + 1) (k + 1) refl) ∙ sym c.rows_are)

      pub ended_tells : Keeps → (rel : State → View → View → Type 0) → BothMake e rel → (new : Seated) → new ≡ (ends, start.1) → rel found.core (seat_view start.0) (seat_view new.0)
      ended_tells keeps rel law new is =
          let to : BoardState → Sight = λ z. gives_both start.0 q z n (names_of n) ((k + 1, OfShard kept) ∷ []) in
          let on : node_at d.pages q.page ≡ Some n = ap (node_at d.pages) keeps.noted_is ∙ c.page_is in
          subst (λ z. rel found.core (seat_view start.0) (seat_view z)) (sym (ap (λ (z : Seated). z.0) is ∙ ap to (sym c.board_is)))
          (law found.core start.0 back c.can q c.actor_is n on (names_of n) (names_stand d next.sound page n c.page_is) ((k + 1, OfShard kept) ∷ []) (left keeps))

-- both takes
pub record Taken (settings : Configuration) (start second : Seated) (page : ℕ) (had : Node) (b : BoardState) : Type 0 where
  pub is : second ≡ took see_none (took see_none start (page + 17) (OfPage had)) 0 (OfBoard b)
  pub finds : Finds settings (took see_none start (page + 17) (OfPage had)).0 0 (OfBoard b)
  pub apart : HasKey start.0.out (page + 17) → ⊥

pub taken : (settings : Configuration) (start first second : Seated) (page : ℕ) (had : Node) (b : BoardState) → first ≡ took see_none start (page + 17) (OfPage had) → HoldsLast first (page + 17) (OfPage had)
    → second ≡ took see_none first 0 (OfBoard b) → Finds settings first.0 0 (OfBoard b) → Taken settings start second page had b
taken settings start first second page had b one last two f = record {
  is = two ∙ ap (λ (y : Seated). took see_none y 0 (OfBoard b)) one;
  finds = subst (λ (y : Seated). Finds settings y.0 0 (OfBoard b)) one f;
  apart = subst (λ (y : Seated). HasKey (rest y.0.out) (page + 17) → ⊥) one last.others;
}
