-- A pass reserves room for one update, with the rows of its shard in hand.
use Rattle.std.proofs.Common.{◌≡◌, ℕ, ◌+◌, ◌<◌, [], ◌∷◌, length, Bool, true, cond, IsTrue, refl, sym, ap, ◌∙◌, subst, arith, inl, Option, Some, None, get_or-set_same, eq-eqb}
use Rattle.std.specs.Prelude.{IsSome, Result, Ok, Err, slice_get}
use Rattle.std.proofs.lemmas.Bool.{false≢true}
use Rattle.std.proofs.lemmas.Option.{same_Some}
use Rattle.atomic_table.specs.Seated.{TableId}
use Rattle.atomic_table.specs.Table.{rest}
use Rattle.mi_base.specs.Configuration.{Configuration}
use Rattle.mi_base.specs.History.{updates_of}
use Rattle.mi_board.specs.Actors.{with_reserved}
use Rattle.mi_board.specs.Boards.{BoardState, floor_of, look_of, with_actor}
use Rattle.mi_core.specs.Effects.{looked, saw}
use Rattle.mi_core.specs.Events.{Can, after}
use Rattle.mi_core.specs.Events.Event.{refuse, reserve, see}
use Rattle.mi_core.specs.Refusals.Refusal.{full}
use Rattle.mi_core.specs.State.{State}
use Rattle.mi_core.proofs.ActorLemmas.{set_there}
use Rattle.mi_core.proofs.KeptEvents.{each_keeps}
use Rattle.mi_core.proofs.KeptLemmas.{on_board}
use Rattle.mi_entries.specs.Actors.{Actor}
use Rattle.mi_entries.specs.Records.{Rows, Shard, held_by, no_shard, shard_at}
use Rattle.mi_latch.specs.declared.slots.Slot.TheVariants.{OfBoard, OfShard, Vacant}
use Rattle.mi_latch.specs.Boards.{root_of, telling_same}
use Rattle.mi_latch.specs.Boths.{HoldsBoth}
use Rattle.mi_latch.specs.Found.{FoundBoard}
use Rattle.mi_latch.specs.Shows.{Has, Returns}
use Rattle.mi_latch.specs.Takes.{Finds, see_none, took}
use Rattle.mi_latch.specs.Views.{Doing, HoldsLast, Seated, Sight}
use Rattle.mi_latch.proofs.BoardMays.{full_found, may_reserve}
use Rattle.mi_latch.proofs.BoardReturns.{returned_both}
use Rattle.mi_latch.proofs.BoardSections.{refuse_gives, see_gives}
use Rattle.mi_latch.proofs.BoardTold.{root_there, tells_root}
use Rattle.mi_latch.proofs.CommitSections.{reserve_gives}
use Rattle.mi_solo.specs.declared.rows.ActorRow.{ActorRow}
use Rattle.mi_tree.specs.declared.answers.Look.{Look}
use Rattle.mi_tree.specs.declared.answers.ReserveRefusal.{ReserveRefusal}
use Rattle.mi_tree.specs.declared.answers.ReserveRefusal.TheVariants.{Full, Memory}
use Rattle.mi_world.specs.Boards.{Reserves}
use Rattle.mi_hall.specs.Passes.{AreNear, HasCells, HasOut, IsPass, PassState, giving, row_actor}
use Rattle.mi_hall.specs.Places.{HasRows, gives_board, untold}
use Rattle.mi_hall.specs.Seats.{rows_out, seat_view}
use Rattle.mi_hall.specs.ShardHolds.{ReservesRow, holding}
use Rattle.mi_hall.proofs.BoardPlaces.{reserves_full_seated, reserves_none_seated, reserves_seated}
use Rattle.mi_hall.proofs.BoardSection.{board_cells, board_section, call_does, found, found_after, found_backs}
use Rattle.mi_hall.proofs.NamedPages.{board_near}
use Rattle.mi_hall.proofs.PassLemmas.{pass_rows, row_found, told_of}
use Rattle.mi_hall.proofs.ShardCalls.{held_part, only_out}

some_there : (o : Option ℕ) → IsSome o → (k : ℕ) × (o ≡ Some k)
some_there None h = absurd (false≢true h)
some_there (Some k) h = (k, refl)

-- who shows a shard has one
pub shard_shown : (old : Seated) (a : ℕ) (row : ActorRow) (rows : Option Rows) (told : Bool) → IsPass old a row rows told → (table : TableId) (was : PassState) → record { sight = old.0; table = table } ≡ was
    → IsSome (seat_view was.sight).shard → (k : ℕ) × (row.shard ≡ Some k)
shard_shown old a row rows told p table was same h =
    some_there row.shard (subst IsSome (ap (λ (r : Actor). r.shard) p.row_is) (subst (λ (z : PassState). IsSome (seat_view z.sight).shard) (sym same) h))

-- the rows of one shard are out
rows_held : (k : ℕ) (x : Rows) → rows_out ((k + 1, OfShard x) ∷ []) k ≡ x
rows_held k x = ap (λ b. cond b x no_shard.rows) (eq-eqb (k + 1) (k + 1) refl)

module _ (settings : Configuration) (old m : Seated) (a : ℕ) (row : ActorRow) (rows : Option Rows) (told : Bool) (b : BoardState) (p : IsPass old a row rows told) (is : m ≡ took see_none old 0 (OfBoard b)) (f : Finds settings old.0 0 (OfBoard b))
    (k : ℕ) (has : row.shard ≡ Some k) (x : Rows) (hold : rows ≡ Some x) where
  abbrev before : FoundBoard settings old.0.actor old.0.mine old.0.out b
  before = found settings old m b p.live is f

  abbrev then : FoundBoard settings m.0.actor m.0.mine (rest m.0.out) b
  then = found_after settings old m b p.live is f

  abbrev c : State
  c = (found settings old m b p.live is f).core

  abbrev part : Actor
  part = old.0.mine.part

  -- the board has its actor
  pub reserve_known : a < length b.actors
  reserve_known = subst (λ i. i < length b.actors) p.actor_is (subst (λ (z : BoardState). old.0.actor < length z.actors) before.board (on_board c before.held.kept.sound old.0.actor part before.fits.part))

  shard_is : old.0.mine.part.shard ≡ Some k
  shard_is = held_part old a row rows told p k has x hold

  shard_after : m.0.mine.part.shard ≡ Some k
  shard_after = ap (λ (z : Seated). z.0.mine.part.shard) is ∙ shard_is

  one : old.0.out ≡ (k + 1, OfShard x) ∷ []
  one = (only_out old a row rows told p k has x hold).0

  kept : old.1 ≡ (k + 1, Vacant) ∷ []
  kept = (only_out old a row rows told p k has x hold).1

  after_one : rest m.0.out ≡ (k + 1, OfShard x) ∷ []
  after_one = ap (λ (z : Seated). rest z.0.out) is ∙ one

  both : HoldsLast m 0 (OfBoard b) → HoldsBoth m b (k + 1) (OfShard x) []
  both last = record { last = last; also = after_one; apart = λ h. h.1 }

  says : m.0.mine.told ≡ told
  says = ap (λ (z : Seated). z.0.mine.told) is ∙ p.told_is

  abbrev with_row : BoardState → ActorRow → Actor
  with_row z made = row_actor z.settings old.0.mine.part made

  -- what is given back beside the board
  outs : (made : ActorRow) (left new : Rows) → made.shard ≡ row.shard → left ≡ new → (k + 1, OfShard new) ∷ [] ≡ holding made.shard left
  outs made left new shard same = ap (λ y. (k + 1, OfShard y) ∷ []) (sym same) ∙ ap (λ o. holding o left) (sym (shard ∙ has))

  module _ (made : ActorRow) (board : BoardState) (left : Rows) where
    -- room is reserved
    module _ (look : Look) (d : ReservesRow a b x row (Ok look) board left made) where
      abbrev more : Rows
      more = record x { room = length x.records + 1 }

      abbrev to : BoardState → Actor → Actor
      to z r = record (looked z r) { reserved = true; reserved_here = true }

      back : board ≡ with_actor (with_reserved true) old.0.actor b
      back = d.0.2 ∙ ap (λ i. with_actor (with_reserved true) i b) (sym p.actor_is)

      shard_stays : made.shard ≡ row.shard
      shard_stays = ap (λ (z : ActorRow). z.shard) d.1

      tie : to b part ≡ row_actor board.settings old.0.mine.part made
      tie = ap (to b) (row_found settings old a row rows told b p f)
          ∙ ap (λ (z : BoardState). with_row z (record row { seen = length z.log; floor = floor_of b; reserved = true; reserved_here = true })) (sym d.0.2) ∙ ap (with_row board) (sym d.1)

      room_does : HoldsLast m 0 (OfBoard b) → Doing settings m.0 (giving m.0 made board told (holding made.shard left)) 0 (OfBoard board)
      room_does last =
          let can = may_reserve settings m.0.actor m.0.mine (rest m.0.out) b then k (length x.records + 1) x shard_after (subst (λ l. Has l (k + 1) (OfShard x)) (sym after_one) (inl (refl, refl))) (omega arith) d.0.0 in
          let does = reserve_gives settings m b then (record (telling_same m.0.mine) { names = root_of b }) k (length x.records + 1) x [] (both last) can (tells_root m.0.actor m.0.mine b (with_actor (with_reserved true) m.0.actor b)) in
          let g : BoardState = with_actor (with_reserved true) m.0.actor b in
          let same : board ≡ g = back ∙ ap (λ (z : Seated). with_actor (with_reserved true) z.0.actor b) (sym is) in
          let tied : to b m.0.mine.part ≡ row_actor board.settings m.0.mine.part made = subst (λ (z : Seated). to b z.0.mine.part ≡ row_actor board.settings z.0.mine.part made) (sym is) tie in
          subst (λ out. Doing settings m.0 (giving m.0 made board told out) 0 (OfBoard board)) (outs made left more shard_stays d.0.3)
          (subst (λ t. Doing settings m.0 (giving m.0 made board t ((k + 1, OfShard more) ∷ [])) 0 (OfBoard board)) says
          (subst (λ (q : Actor). Doing settings m.0 (gives_board m.0 q board m.0.mine.told (root_of board) ((k + 1, OfShard more) ∷ [])) 0 (OfBoard board)) tied
          (subst (λ (z : BoardState). Doing settings m.0 (gives_board m.0 (to b m.0.mine.part) z m.0.mine.told (root_of z) ((k + 1, OfShard more) ∷ [])) 0 (OfBoard z)) (sym same) does)))

      abbrev event_can : Can c old.0.actor old.0.mine.part (reserve k x (length x.records + 1))
      event_can = may_reserve settings old.0.actor old.0.mine old.0.out b before k (length x.records + 1) x shard_is (subst (λ l. Has l (k + 1) (OfShard x)) (sym one) (inl (refl, refl))) (omega arith) d.0.0

      abbrev next : State
      next = after c old.0.actor old.0.mine.part (reserve k x (length x.records + 1))

      new_rows : HasRows next (gives_board old.0 (to c.board part) next.board told (root_of next.board) ((k + 1, OfShard more) ∷ []))
      new_rows n h =
          let same : k ≡ n = same_Some k n (sym shard_is ∙ h) in
          let low = ((before.held.kept.sound.each old.0.actor part before.fits.part).holds.shard k shard_is).0 in
          let sixteen = before.held.kept.sound.sixteen in
          let long : k < length c.shards = omega (arith, low, sixteen) in
          subst (λ i. rows_out ((k + 1, OfShard more) ∷ []) i ≡ (shard_at next.shards i).rows) same
          (rows_held k more ∙ sym (ap (λ (s : Shard). s.rows) (get_or-set_same c.shards k (held_by (Some old.0.actor) more) no_shard long)))

      room_told : (table : TableId) (was : PassState) → record { sight = old.0; table = table } ≡ was → (new : Seated) → new ≡ (giving m.0 made board told (holding made.shard left), rest m.1)
          → Reserves (seat_view was.sight) (seat_view new.0) (Ok look)
      room_told table was same new gave =
          let v : Sight = old.0 in
          let out = (k + 1, OfShard more) ∷ [] in
          let backed = found_backs settings v b before (pass_rows old a row rows told p) in
          let now : slice_get next.actors v.actor ≡ Some (to c.board part) = set_there c.actors v.actor (to c.board part) part before.fits.part in
          let done = each_keeps (reserve k x (length x.records + 1)) c backed.kept v.actor part before.fits.part before.going event_can in
          let given : next.board ≡ board = ap (with_actor (with_reserved true) v.actor) before.board ∙ sym back in
          let known = reserves_seated k (length x.records + 1) x c v backed event_can (to c.board part) now (root_of next.board) (root_there next.board next done refl) out new_rows in
          let seen : new.0 ≡ gives_board v (to c.board part) next.board v.mine.told (root_of next.board) out =
          ap (λ (z : Seated). z.0) gave ∙ ap (λ o. giving m.0 made board told o) (sym (outs made left more shard_stays d.0.3)) ∙ ap (λ (z : Seated). giving z.0 made board told out) is
          ∙ ap (λ q. gives_board v q board told (root_of board) out) (sym (ap (λ z. to z part) before.board ∙ tie))
          ∙ ap (λ t. gives_board v (to c.board part) board t (root_of board) out) (sym p.told_is) ∙ ap (λ z. gives_board v (to c.board part) z v.mine.told (root_of z) out) (sym given) in
          let root : IsTrue ((seat_view (gives_board v (to c.board part) next.board v.mine.told (root_of next.board) out)).named c.board.root) = rw (eq-eqb c.board.root c.board.root refl) refl in
          let law = known root in
          told_of (λ v w. Reserves v w (Ok look)) old.0 new.0 table was same
          (subst (λ (z : Sight). Reserves (seat_view old.0) (seat_view z) (Ok look)) (sym seen)
          (subst (λ l. Reserves (seat_view old.0) (seat_view (gives_board v (to c.board part) next.board v.mine.told (root_of next.board) out)) (Ok l)) (ap look_of given ∙ sym d.0.1) law))

    -- the board goes back as it was, and the rows too
    module _ (shard : made.shard ≡ row.shard) (given : board ≡ b) (same_rows : left ≡ x) (row_is : made ≡ record row { seen = length board.log }) where
      tie_same : saw b old.0.mine.part ≡ row_actor board.settings old.0.mine.part made
      tie_same = ap (saw b) (row_found settings old a row rows told b p f) ∙ ap (λ (z : BoardState). with_row z (record row { seen = length z.log })) (sym given) ∙ ap (with_row board) (sym row_is)

      tied_same : saw b m.0.mine.part ≡ row_actor board.settings m.0.mine.part made
      tied_same = subst (λ (z : Seated). saw b z.0.mine.part ≡ row_actor board.settings z.0.mine.part made) (sym is) tie_same

      still : rest m.0.out ≡ holding made.shard left
      still = after_one ∙ outs made left x shard same_rows

      still_given : (new : Seated) → new ≡ (giving m.0 made board told (holding made.shard left), rest m.1) → new.0 ≡ giving m.0 made board told (rest m.0.out)
      still_given new gave = ap (λ (z : Seated). z.0) gave ∙ ap (λ o. giving m.0 made board told o) (sym still)

      none_does : HoldsLast m 0 (OfBoard b) → Doing settings m.0 (giving m.0 made board told (holding made.shard left)) 0 (OfBoard board)
      none_does last =
          subst (λ out. Doing settings m.0 (giving m.0 made board told out) 0 (OfBoard board)) still
          (call_does settings m (saw b m.0.mine.part) b board made m.0.mine.told told (see_gives settings m b last then (record (telling_same m.0.mine) { names = root_of b }) (tells_root m.0.actor m.0.mine b b)) given tied_same says)

      full_does : length (updates_of b.log) ≡ b.settings.updates → HoldsLast m 0 (OfBoard b) → Doing settings m.0 (giving m.0 made board told (holding made.shard left)) 0 (OfBoard board)
      full_does e last =
          subst (λ out. Doing settings m.0 (giving m.0 made board told out) 0 (OfBoard board)) still
          (call_does settings m (saw b m.0.mine.part) b board made m.0.mine.told told
          (refuse_gives settings m b last then (record (telling_same m.0.mine) { names = root_of b }) full (full_found settings m.0.actor m.0.mine (rest m.0.out) b then e) (λ c. tt) (tells_root m.0.actor m.0.mine b b)) given tied_same says)

      none_told : (table : TableId) (was : PassState) → record { sight = old.0; table = table } ≡ was → (new : Seated) → new ≡ (giving m.0 made board told (holding made.shard left), rest m.1)
          → Reserves (seat_view was.sight) (seat_view new.0) (Err Memory)
      none_told table was same new gave = told_of (λ v w. Reserves v w (Err Memory)) old.0 new.0 table was same
          (board_section settings old m b p.live is f (pass_rows old a row rows told p) see untold (λ c v w. Reserves v w (Err Memory)) reserves_none_seated tt (λ z. saw z old.0.mine.part) (λ z. z) refl refl refl refl
          board given made tie_same told p.told_is new.0 (still_given new gave))

      full_told : (limit : ℕ) → limit ≡ b.settings.updates → length (updates_of b.log) ≡ b.settings.updates → (table : TableId) (was : PassState) → record { sight = old.0; table = table } ≡ was
          → (new : Seated) → new ≡ (giving m.0 made board told (holding made.shard left), rest m.1) → Reserves (seat_view was.sight) (seat_view new.0) (Err (Full limit))
      full_told limit at e table was same new gave =
          let law = board_section settings old m b p.live is f (pass_rows old a row rows told p) (refuse full) untold (λ c v w. Reserves v w (Err (Full c.board.settings.updates))) reserves_full_seated
          (full_found settings old.0.actor old.0.mine old.0.out b before e) (λ z. saw z old.0.mine.part) (λ z. z) refl refl refl refl
          board given made tie_same told p.told_is new.0 (still_given new gave) in
          told_of (λ v w. Reserves v w (Err (Full limit))) old.0 new.0 table was same
          (subst (λ z. Reserves (seat_view old.0) (seat_view new.0) (Err (Full z))) (ap (λ (z : BoardState). z.settings.updates) before.board ∙ sym at) law)

    -- each answer
    pub reserves_shard : (result : Result Look ReserveRefusal) → ReservesRow a b x row result board left made → made.shard ≡ row.shard
    reserves_shard (Ok look) d = ap (λ (z : ActorRow). z.shard) d.1
    reserves_shard (Err (Full limit)) d = ap (λ (z : ActorRow). z.shard) d.1
    reserves_shard (Err Memory) d = ap (λ (z : ActorRow). z.shard) d.1

    pub reserves_hand : (result : Result Look ReserveRefusal) → ReservesRow a b x row result board left made → made.hand.fresh ≡ row.hand.fresh
    reserves_hand (Ok look) d = ap (λ (z : ActorRow). z.hand.fresh) d.1
    reserves_hand (Err (Full limit)) d = ap (λ (z : ActorRow). z.hand.fresh) d.1
    reserves_hand (Err Memory) d = ap (λ (z : ActorRow). z.hand.fresh) d.1

    pub reserves_root : (result : Result Look ReserveRefusal) → ReservesRow a b x row result board left made → board.root ≡ b.root
    reserves_root (Ok look) d = ap (λ (z : BoardState). z.root) d.0.2
    reserves_root (Err (Full limit)) d = ap (λ (z : BoardState). z.root) d.0.1
    reserves_root (Err Memory) d = ap (λ (z : BoardState). z.root) d.0.0

    pub reserves_does : (result : Result Look ReserveRefusal) → ReservesRow a b x row result board left made → HoldsLast m 0 (OfBoard b) → Doing settings m.0 (giving m.0 made board told (holding made.shard left)) 0 (OfBoard board)
    reserves_does (Ok look) d last = room_does look d last
    reserves_does (Err (Full limit)) d last = full_does (ap (λ (z : ActorRow). z.shard) d.1) d.0.1 d.0.2 d.1 (d.0.0.1 ∙ d.0.0.0) last
    reserves_does (Err Memory) d last = none_does (ap (λ (z : ActorRow). z.shard) d.1) d.0.0 d.0.1 d.1 last

    pub reserves_returns : (result : Result Look ReserveRefusal) → ReservesRow a b x row result board left made → HoldsLast m 0 (OfBoard b) → Returns m.0 (giving m.0 made board told (holding made.shard left)) 0
    reserves_returns result d last =
        subst (λ out. Returns m.0 (giving m.0 made board told out) 0) (outs made left left (reserves_shard result d) refl)
        (returned_both m b (k + 1) (OfShard x) (OfShard left) [] (giving m.0 made board told []).mine (both last))

    pub reserves_told : (result : Result Look ReserveRefusal) → ReservesRow a b x row result board left made → (table : TableId) (was : PassState) → record { sight = old.0; table = table } ≡ was
        → (new : Seated) → new ≡ (giving m.0 made board told (holding made.shard left), rest m.1) → Reserves (seat_view was.sight) (seat_view new.0) result
    reserves_told (Ok look) d table was same new gave = room_told look d table was same new gave
    reserves_told (Err (Full limit)) d table was same new gave = full_told (ap (λ (z : ActorRow). z.shard) d.1) d.0.1 d.0.2 d.1 limit d.0.0.0 (d.0.0.1 ∙ d.0.0.0) table was same new gave
    reserves_told (Err Memory) d table was same new gave = none_told (ap (λ (z : ActorRow). z.shard) d.1) d.0.0 d.0.1 d.1 table was same new gave

    -- but for what is out, the seat is as after a give of the board alone
    abbrev alone : Seated
    alone = (giving m.0 made board told (rest m.0.out), rest m.1)

    pub reserves_cells : (result : Result Look ReserveRefusal) → ReservesRow a b x row result board left made → (new : Seated) → new ≡ (giving m.0 made board told (holding made.shard left), rest m.1) → HasCells new.0.mine
    reserves_cells (Ok look) d new gave = subst (λ (z : Seated). HasCells z.0.mine) (sym gave)
        (board_cells settings old m b p.live is f (reserve k x (length x.records + 1)) (event_can look d) (λ z. to look d z old.0.mine.part) (with_actor (with_reserved true) old.0.actor) refl refl board (back look d) made (tie look d) told (giving m.0 made board told (rest m.0.out)) refl)
    reserves_cells (Err (Full limit)) d new gave = subst (λ (z : Seated). HasCells z.0.mine) (sym gave)
        (board_cells settings old m b p.live is f see tt (λ z. saw z old.0.mine.part) (λ z. z) refl refl board d.0.1 made (tie_same (ap (λ (z : ActorRow). z.shard) d.1) d.0.1 d.0.2 d.1) told (giving m.0 made board told (rest m.0.out)) refl)
    reserves_cells (Err Memory) d new gave = subst (λ (z : Seated). HasCells z.0.mine) (sym gave)
        (board_cells settings old m b p.live is f see tt (λ z. saw z old.0.mine.part) (λ z. z) refl refl board d.0.0 made (tie_same (ap (λ (z : ActorRow). z.shard) d.1) d.0.0 d.0.1 d.1) told (giving m.0 made board told (rest m.0.out)) refl)

    pub reserves_near : (result : Result Look ReserveRefusal) → ReservesRow a b x row result board left made → (new : Seated) → new ≡ (giving m.0 made board told (holding made.shard left), rest m.1)
        → (was table its : TableId) (seen : PassState) → its.words ≡ settings.pages + 17 → record { sight = old.0; table = was } ≡ seen → seen.table ≡ its → table ≡ was → AreNear was.words old.0.mine.named → AreNear table.words new.0.mine.named
    reserves_near result d new gave was table its seen many same fits stays near = subst (λ (z : Seated). AreNear table.words z.0.mine.named) (sym gave)
        (board_near settings old m alone made told b board was table its seen p.live is f refl (reserves_root result d) many same fits stays near)

    pub reserves_pass : (result : Result Look ReserveRefusal) → ReservesRow a b x row result board left made → (new : Seated) → new ≡ (giving m.0 made board told (holding made.shard left), rest m.1) → IsPass new a made (Some left) told
    reserves_pass result d new gave =
        let shard : made.shard ≡ Some k = reserves_shard result d ∙ has in
        let held : rest m.1 ≡ (k + 1, Vacant) ∷ [] = ap (λ (z : Seated). rest z.1) is ∙ kept in
        subst (λ z. IsPass z a made (Some left) told) (sym gave) (record {
          live = refl;
          actor_is = ap (λ (z : Seated). z.0.actor) is ∙ p.actor_is;
          row_is = refl;
          told_is = refl;
          out = subst (λ o. HasOut o (Some left) (holding o left) (rest m.1)) (sym shard) (refl, held);
          unborn = ap (λ (z : Seated). z.0.born) is ∙ p.unborn;
        })
