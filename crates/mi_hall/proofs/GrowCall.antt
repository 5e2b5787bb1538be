-- A root that a pass makes of its fresh page.
use Rattle.std.proofs.Common.{◌≡◌, ◌≢◌, ℕ, ◌+◌, List, [], ◌∷◌, length, Bool, refl, sym, ap, ◌∙◌, subst, arith, Option, Some, None, inr, true, false}
use Rattle.atomic_table.specs.Table.{rest}
use Rattle.mi_base.specs.Configuration.{Configuration}
use Rattle.mi_board.specs.Boards.{BoardState, grown}
use Rattle.mi_core.specs.Effects.{paid, saw}
use Rattle.mi_core.specs.Events.{Can, after, hand}
use Rattle.mi_core.specs.Events.Event.{grow, refuse}
use Rattle.mi_core.specs.Refusals.Refusal.{grown as is_grown}
use Rattle.mi_core.specs.State.{State}
use Rattle.mi_core.proofs.ActorLemmas.{set_there}
use Rattle.mi_entries.specs.Actors.{Actor}
use Rattle.mi_entries.specs.Records.{Rows}
use Rattle.mi_latch.specs.declared.slots.Slot.{Slot}
use Rattle.mi_latch.specs.declared.slots.Slot.TheVariants.{OfBoard, OfPage, Vacant}
use Rattle.mi_latch.specs.Boards.{root_of, seeing, telling_same}
use Rattle.mi_latch.specs.Boths.{HoldsBoth}
use Rattle.mi_latch.specs.Found.{FoundBoard}
use Rattle.mi_latch.specs.Shows.{HasKey, Returns}
use Rattle.mi_latch.specs.Takes.{Finds, see_none, took}
use Rattle.mi_latch.specs.Views.{Doing, HoldsLast, IsOne, Seated, Sight, now}
use Rattle.mi_latch.proofs.BoardReturns.{returned_both}
use Rattle.mi_latch.proofs.BoardSections.{refuse_gives}
use Rattle.mi_latch.proofs.BoardTold.{tells_root, tells_same}
use Rattle.mi_latch.proofs.CommitSections.{grow_gives}
use Rattle.mi_page.specs.Nodes.{Node, root_node}
use Rattle.mi_solo.specs.declared.rows.ActorRow.{ActorRow}
use Rattle.mi_solo.proofs.RouteEvents.{can_grow, grown_already}
use Rattle.mi_world.specs.Boards.{Grew}
use Rattle.mi_world.specs.Pages.{IsChildAt}
use Rattle.mi_hall.specs.Passes.{AreNear, HasCells, HasOut, IsPass, giving, row_actor}
use Rattle.mi_hall.specs.Places.{IsBacked, gives_board, untold}
use Rattle.mi_hall.specs.Roots.{GrowsRow, raising}
use Rattle.mi_hall.specs.Seats.{seat_view}
use Rattle.mi_hall.proofs.BoardPlaces.{grows_seated, stays_seated}
use Rattle.mi_hall.proofs.BoardSection.{board_cells, board_section, call_does, found, found_after, found_backs}
use Rattle.mi_hall.proofs.NamedPages.{given_near, named_as}
use Rattle.mi_hall.proofs.PassLemmas.{given_pass, pass_rows, row_found}
use Rattle.mi_hall.proofs.SeatConditions.{child_seated}
use Rattle.mi_hall.proofs.SplitCall.{fresh_vacant}

-- the seat with the slot of the fresh page out, and the board beside it
abbrev pub holding : Seated → ℕ → BoardState → Seated
holding start number b = took see_none (took see_none start (number + 17) Vacant) 0 (OfBoard b)

-- the seat with the board alone out
abbrev pub bare : Seated → BoardState → Seated
bare start b = took see_none start 0 (OfBoard b)

-- both takes found what they should
pub record Taken (settings : Configuration) (start second : Seated) (number : ℕ) (b : BoardState) (x : Slot) : Type 0 where
  pub empty : x ≡ Vacant
  pub is : second ≡ holding start number b
  pub found : Finds settings (took see_none start (number + 17) Vacant).0 0 (OfBoard b)
  pub apart : HasKey start.0.out (number + 17) → ⊥

pub taken : (settings : Configuration) (start first second : Seated) (number a : ℕ) (row : ActorRow) (rows : Option Rows) (told : Bool) (b : BoardState) (x : Slot) → IsPass start a row rows told → row.hand.fresh ≡ Some number
    → first ≡ took see_none start (number + 17) x → Finds settings start.0 (number + 17) x → HoldsLast first (number + 17) x → second ≡ took see_none first 0 (OfBoard b) → Finds settings first.0 0 (OfBoard b) → Taken settings start second number b x
taken settings start first second number a row rows told b x p fresh one f last two g =
    let empty = fresh_vacant settings start number a row rows told p fresh x f in
    let is : first ≡ took see_none start (number + 17) Vacant = one ∙ ap (took see_none start (number + 17)) empty in
    record {
      empty = empty;
      is = two ∙ ap (λ (z : Seated). took see_none z 0 (OfBoard b)) is;
      found = subst (λ (z : Seated). Finds settings z.0 0 (OfBoard b)) is g;
      apart = subst (λ (z : Seated). HasKey (rest z.0.out) (number + 17) → ⊥) is last.others;
    }

module _ (settings : Configuration) (start : Seated) (number : ℕ) (b : BoardState) (a : ℕ) (row : ActorRow) (rows : Option Rows) (told : Bool) (p : IsPass start a row rows told) (fresh : row.hand.fresh ≡ Some number)
    (f : Finds settings (took see_none start (number + 17) Vacant).0 0 (OfBoard b)) (apart : HasKey start.0.out (number + 17) → ⊥)
    (level key child : ℕ) (route : IsChildAt (seat_view start.0) level key child) where
  abbrev r : Actor
  r = start.0.mine.part

  abbrev first : Seated
  first = took see_none start (number + 17) Vacant

  abbrev m : Seated
  m = holding start number b

  -- what the take of the board found is so of the seat before both takes
  before : Finds settings start.0 0 (OfBoard b)
  before = record {
    core = f.core;
    held = f.held;
    backs = record {
      records = f.backs.records;
      values = λ i x h. f.backs.values i x (inr h);
      unborn = f.backs.unborn;
      unjoined = f.backs.unjoined;
      own = record { mine = f.backs.own.mine; born = f.backs.own.born; over = f.backs.own.over; forked = f.backs.own.forked };
    };
    value = f.value;
  }

  abbrev x : FoundBoard settings start.0.actor start.0.mine start.0.out b
  x = found settings start (bare start b) b p.live refl before

  -- and of the seat after them
  abbrev y : FoundBoard settings start.0.actor start.0.mine ((number + 17, Vacant) ∷ start.0.out) b
  y = found_after settings first m b p.live refl f

  backs_before : IsBacked x.core start.0
  backs_before = found_backs settings start.0 b x (pass_rows start a row rows told p)

  backs_after : IsBacked y.core start.0
  backs_after = found_backs settings start.0 b (record { core = y.core; held = y.held; fits = y.fits; board = y.board; values = λ i v h. y.values i v (inr h); going = y.going }) (pass_rows start a row rows told p)

  has_fresh : start.0.mine.part.fresh ≡ Some number
  has_fresh = ap (λ (z : Actor). z.fresh) p.row_is ∙ fresh

  -- the actor's record with another row, of the board that it found
  abbrev with_row : BoardState → ActorRow → Actor
  with_row z made = row_actor z.settings start.0.mine.part made

  found_row : start.0.mine.part ≡ row_actor b.settings start.0.mine.part row
  found_row = row_found settings start a row rows told b p before

  -- the root is as high already
  module _ (made : ActorRow) (board : BoardState) (d : GrowsRow number level key child b row None board made) where
    stays : (c : State) → IsBacked c start.0 → c.board ≡ b → Can c start.0.actor start.0.mine.part (refuse (is_grown level))
    stays c backed is = grown_already c start.0.actor r level key child (child_seated level key child c start.0 backed route) backed.kept (subst (λ (z : BoardState). z.height + 1 ≢ level) (sym is) d.0)

    seen_tie : saw b start.0.mine.part ≡ row_actor board.settings start.0.mine.part made
    seen_tie = ap (saw b) found_row ∙ ap (λ z. with_row z (record row { seen = length b.log })) (sym d.1) ∙ ap (with_row board) (sym d.2)

    pub same_does : (z : Seated) → z ≡ holding start number b → HoldsLast z 0 (OfBoard b) → Doing settings z.0 (giving z.0 made board told (rest z.0.out)) 0 (OfBoard board)
    same_does z is last =
        let here : HoldsLast m 0 (OfBoard b) = subst (λ y. HoldsLast y 0 (OfBoard b)) is last in
        subst (λ (y : Seated). Doing settings y.0 (giving y.0 made board told (rest y.0.out)) 0 (OfBoard board)) (sym is)
        (call_does settings m (saw b r) b board made start.0.mine.told told
        (refuse_gives settings m b here y (record (telling_same start.0.mine) { names = root_of b }) (is_grown level) (stays y.core backs_after y.board) (λ c. tt) (tells_root start.0.actor start.0.mine b b)) d.1 seen_tie p.told_is)

    -- the fresh page's slot is the last one out then
    pub vacant_last : (z y : Seated) → z ≡ holding start number b → y ≡ (giving z.0 made board told (rest z.0.out), rest z.1) → HoldsLast y (number + 17) Vacant
    vacant_last z y is gave =
        let gives : Seated → Seated = λ k. (giving k.0 made board told (rest k.0.out), rest k.1) in
        subst (λ (k : Seated). HoldsLast k (number + 17) Vacant) (sym (gave ∙ ap gives is)) (record { held = refl; live = refl; out = refl; others = apart })

    -- with the slot back, the seat is as if the board alone had been out
    pub same_ends : (z y new : Seated) → z ≡ holding start number b → y ≡ (giving z.0 made board told (rest z.0.out), rest z.1) → new ≡ (now y.0 y.0.mine (rest y.0.out), rest y.1)
        → new ≡ (giving (bare start b).0 made board told (rest (bare start b).0.out), rest (bare start b).1)
    same_ends z y new is gave back_is =
        let gives : Seated → Seated = λ k. (giving k.0 made board told (rest k.0.out), rest k.1) in
        let drops : Seated → Seated = λ k. (now k.0 k.0.mine (rest k.0.out), rest k.1) in
        back_is ∙ ap drops (gave ∙ ap gives is)

    module _ (new : Seated) (ends : new ≡ (giving (bare start b).0 made board told (rest (bare start b).0.out), rest (bare start b).1)) where
      pub same_told : Grew (seat_view start.0) (seat_view new.0) level child false
      same_told = board_section settings start (bare start b) b p.live refl before (pass_rows start a row rows told p) (refuse (is_grown level)) untold (λ c v w. Grew v w level child false) (stays_seated level child) (stays x.core backs_before x.board)
          (λ z. saw z r) (λ z. z) refl refl refl refl board d.1 made seen_tie told p.told_is new.0 (ap (λ (z : Seated). z.0) ends)

      pub same_pass : IsPass new a made rows told
      same_pass = given_pass start (bare start b) new a row made rows told told b board p refl ends (ap (λ (z : ActorRow). z.shard) d.2)

      pub same_near : (words : ℕ) → words ≡ settings.pages + 17 → AreNear words start.0.mine.named → AreNear words new.0.mine.named
      same_near words many near = given_near settings start (bare start b) new made told b board words p.live refl before ends (ap (λ (z : BoardState). z.root) d.1) many near

      pub same_cells : HasCells new.0.mine
      same_cells = board_cells settings start (bare start b) b p.live refl before (refuse (is_grown level)) (stays x.core backs_before x.board) (λ z. saw z r) (λ z. z) refl refl board d.1 made seen_tie told new.0 (ap (λ (z : Seated). z.0) ends)

  -- the fresh page is the root
  module _ (root : Node) (made : ActorRow) (board : BoardState) (d : GrowsRow number level key child b row (Some root) board made) where
    abbrev to : BoardState → Actor
    to z = record (saw z start.0.mine.part) { fresh = None; owed = paid child start.0.mine.part.owed }

    grows : (c : State) → IsBacked c start.0 → c.board ≡ b → Can c start.0.actor start.0.mine.part (grow level key child)
    grows c backed is = can_grow c start.0.actor r level key child (child_seated level key child c start.0 backed route) number has_fresh (ap (λ (z : BoardState). z.height + 1) is ∙ d.0)

    tie : to b ≡ row_actor board.settings start.0.mine.part made
    tie =
        let pays : Actor → Actor = λ q. record (saw b q) { fresh = None; owed = paid child q.owed } in
        ap pays found_row ∙ ap (λ z. with_row z (record row { seen = length b.log; hand = record { fresh = None; owed = paid child row.hand.owed } })) (sym d.1) ∙ ap (with_row board) (sym d.3)

    -- the child was named to the seat, one level below the new root
    named : IsOne (record { page = child; level = b.height; low = key }) start.0.mine.named
    named =
        let y = named_as start.0.mine.named child route.named in
        let low : y.0.low ≡ key = y.4 ∙ route.low_is in
        let height : y.0.level ≡ b.height = (let up = ap (λ l. l + 1) y.3 ∙ route.level_is in let one = d.0 in omega (arith, up, one)) in
        let P : ℕ → ℕ → ℕ → Type 0 = λ q l k. IsOne (record { page = q; level = l; low = k }) start.0.mine.named in
        subst (λ q. P q b.height key) y.1 (subst (λ l. P y.0.page l key) height (subst (λ k. P y.0.page y.0.level k) low y.2))

    module _ (z : Seated) (is : z ≡ holding start number b) (last : HoldsLast z 0 (OfBoard b)) where
      holds : HoldsBoth (holding start number b) b (number + 17) Vacant start.0.out
      holds = record { last = subst (λ y. HoldsLast y 0 (OfBoard b)) is last; also = refl; apart = apart }

      pub root_does : Doing settings z.0 (raising z.0 made board number root) 0 (OfBoard board)
      root_does =
          let out : Node → List (ℕ × Slot) = λ n. (number + 17, OfPage n) ∷ start.0.out in
          let up : Node = root_node level b.root key child in
          subst (λ (y : Seated). Doing settings y.0 (raising y.0 made board number root) 0 (OfBoard board)) (sym is)
          (subst (λ (n : Node). Doing settings m.0 (gives_board m.0 (row_actor board.settings r made) board start.0.mine.told [] (out n)) 0 (OfBoard board)) (sym d.2)
          (subst (λ (q : Actor). Doing settings m.0 (gives_board m.0 q board start.0.mine.told [] (out up)) 0 (OfBoard board)) tie
          (subst (λ (g : BoardState). Doing settings m.0 (gives_board m.0 (to b) g start.0.mine.told [] (out up)) 0 (OfBoard g)) (sym d.1)
          (grow_gives settings m b y (telling_same start.0.mine) number level key child start.0.out holds has_fresh named (grows y.core backs_after y.board) (tells_same start.0.actor start.0.mine b (grown level number b))))))

      pub root_returns : Returns z.0 (raising z.0 made board number root) 0
      root_returns = subst (λ (y : Seated). Returns y.0 (raising y.0 made board number root) 0) (sym is)
          (returned_both m b (number + 17) Vacant (OfPage root) start.0.out (seeing (row_actor board.settings r made) board (telling_same start.0.mine) start.0.mine) holds)

      -- the new root's page is the last one out then
      pub root_last : (y : Seated) → y ≡ (raising z.0 made board number root, rest z.1) → HoldsLast y (number + 17) (OfPage root)
      root_last y gave =
          let gives : Seated → Seated = λ k. (raising k.0 made board number root, rest k.1) in
          subst (λ (k : Seated). HoldsLast k (number + 17) (OfPage root)) (sym (gave ∙ ap gives is)) (record { held = refl; live = refl; out = refl; others = apart })

      pub root_ends : (y new : Seated) → y ≡ (raising z.0 made board number root, rest z.1) → new ≡ (now y.0 y.0.mine (rest y.0.out), rest y.1)
          → new ≡ (gives_board start.0 (row_actor board.settings start.0.mine.part made) board start.0.mine.told [] start.0.out, start.1)
      root_ends y new gave back_is =
          let gives : Seated → Seated = λ k. (raising k.0 made board number root, rest k.1) in
          let drops : Seated → Seated = λ k. (now k.0 k.0.mine (rest k.0.out), rest k.1) in
          back_is ∙ ap drops (gave ∙ ap gives is)

    module _ (new : Seated) (ends : new ≡ (gives_board start.0 (row_actor board.settings start.0.mine.part made) board start.0.mine.told [] start.0.out, start.1)) where
      abbrev t : State
      t = after x.core start.0.actor start.0.mine.part (grow level key child)

      made_board : t.board ≡ grown level number x.core.board
      made_board = ap (λ o. grown level (hand o) x.core.board) has_fresh

      pub root_told : Grew (seat_view start.0) (seat_view new.0) level child true
      root_told =
          let v : Sight = start.0 in
          let same : to x.core.board ≡ row_actor board.settings r made = ap to x.board ∙ tie in
          let stands : t.board ≡ board = made_board ∙ ap (grown level number) x.board ∙ sym d.1 in
          let is_new : new.0 ≡ gives_board v (to x.core.board) t.board v.mine.told [] v.out = ap (λ (z : Seated). z.0) ends
          ∙ ap (λ q. gives_board v q board v.mine.told [] v.out) (sym same) ∙ ap (λ z. gives_board v (to x.core.board) z v.mine.told [] v.out) (sym stands) in
          subst (λ z. Grew (seat_view v) (seat_view z) level child true) (sym is_new)
          (grows_seated level key child x.core v backs_before (grows x.core backs_before x.board) (to x.core.board) (set_there x.core.actors v.actor (to x.core.board) r x.fits.part) [] (λ q h. absurd h) v.out (λ n h. backs_before.rows n h))

      -- it is a pass again
      pub root_pass : IsPass new a made rows told
      root_pass = subst (λ z. IsPass z a made rows told) (sym ends) (record {
        live = refl;
        actor_is = p.actor_is;
        row_is = refl;
        told_is = p.told_is;
        out = subst (λ k. HasOut k rows start.0.out start.1) (ap (λ (z : Actor). z.shard) p.row_is ∙ sym (ap (λ (z : ActorRow). z.shard) d.3)) p.out;
        unborn = p.unborn;
      })

      pub root_near : (words : ℕ) → AreNear words start.0.mine.named → AreNear words new.0.mine.named
      root_near words near = subst (λ (z : Seated). AreNear words z.0.mine.named) (sym ends) near

      pub root_cells : HasCells new.0.mine
      root_cells =
          let gives : Sight = giving (bare start b).0 made board told (rest (bare start b).0.out) in
          subst (λ (z : Seated). HasCells z.0.mine) (sym ends)
          (board_cells settings start (bare start b) b p.live refl before (grow level key child) (grows x.core backs_before x.board) to (grown level number) refl made_board board d.1 made tie told gives refl)
