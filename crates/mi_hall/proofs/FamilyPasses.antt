-- A pass that makes an actor, and the pass of that actor.
use Rattle.std.proofs.Common.{◌≡◌, ℕ, ◌<◌, ◌==◌, ◌||◌, List, [], ◌∷◌, length, Bool, true, false, refl, sym, ap, ◌∙◌, subst, arith, Option, Some, None, inl, inr, eqb-true}
use Rattle.std.proofs.lemmas.Bool.{false≢true}
use Rattle.std.proofs.lemmas.Option.{none-some}
use Rattle.atomic_table.specs.Table.{rest}
use Rattle.mi_base.specs.Configuration.{Configuration}
use Rattle.mi_base.specs.History.{at_position, end_of}
use Rattle.mi_base.specs.Prefixes.{has}
use Rattle.mi_base.specs.declared.records.Position.{Position}
use Rattle.mi_board.specs.Boards.{BoardState, with_more}
use Rattle.mi_core.specs.Effects.{saw}
use Rattle.mi_core.specs.Events.{Can, first_actor, made_actor}
use Rattle.mi_core.specs.Events.Event.{fork}
use Rattle.mi_core.specs.State.{State}
use Rattle.mi_entries.specs.Actors.{Actor, Pin}
use Rattle.mi_entries.specs.Records.{Rows}
use Rattle.mi_latch.specs.declared.slots.Slot.TheVariants.{OfBoard}
use Rattle.mi_latch.specs.Boards.{telling_same}
use Rattle.mi_latch.specs.Ends.{adding}
use Rattle.mi_latch.specs.Found.{FoundBoard}
use Rattle.mi_latch.specs.Noting.{Notes}
use Rattle.mi_latch.specs.Shows.{In, Returns, child, parting}
use Rattle.mi_latch.specs.Takes.{Finds, see_none, took}
use Rattle.mi_latch.specs.Views.{Doing, HoldsLast, Seated, Sight}
use Rattle.mi_latch.proofs.BoardForks.{fork_gives}
use Rattle.mi_latch.proofs.BoardReturns.{returned_more}
use Rattle.mi_latch.proofs.BoardTold.{found_board, found_taken, tells_same}
use Rattle.mi_solo.specs.declared.rows.ActorRow.{ActorRow}
use Rattle.mi_solo.specs.States.{actor_of}
use Rattle.mi_tree.specs.Legal.{cells_of}
use Rattle.mi_world.specs.Families.{Forked}
use Rattle.mi_hall.specs.Families.{board_out}
use Rattle.mi_hall.specs.Passes.{AreNear, HasCells, HasWord, IsAt, IsPass, row_actor}
use Rattle.mi_hall.specs.declared.absorbed.Gone.{Gone}
use Rattle.mi_hall.specs.Absorbed.{HasGone, IsSpare}
use Rattle.mi_hall.specs.Places.{HoldsRows, IsBacked, forks, fresh_seat}
use Rattle.mi_hall.specs.Seats.{seat_view}
use Rattle.mi_hall.proofs.BoardSection.{found_backs}
use Rattle.mi_hall.proofs.FamilyPlaces.{forks_seated}
use Rattle.mi_hall.proofs.PassLemmas.{row_found}

-- a number that stands in a list is in it
has_in : (k : ℕ) (xs : List ℕ) → has k xs ≡ true → In k xs
has_in k [] h = absurd (false≢true h)
has_in k (x ∷ xs) h =
    let P : Bool → Type 0 = λ z. (x == k) ≡ z → (z || has k xs) ≡ true → In k (x ∷ xs) in
    (elim (x == k) as P [ true ↦ λ e _. inl (eqb-true x k e) | false ↦ λ e g. inr (has_in k xs g) ]) refl h

module _ (settings : Configuration) (old m : Seated) (b : BoardState) (a : ℕ) (row : ActorRow) (rows : Option Rows) (told : Bool) (p : IsPass old a row rows told) (is : m ≡ took see_none old 0 (OfBoard b)) (f : Finds settings old.0 0 (OfBoard b)) where
  found : FoundBoard settings old.0.actor old.0.mine old.0.out b
  found = found_board settings old.0 b p.live f

  -- the record of its row, after it saw the board
  saw_row : (row' : ActorRow) → row' ≡ record row { seen = length b.log } → saw b old.0.mine.part ≡ row_actor b.settings (saw b old.0.mine.part) row'
  saw_row row' made = ap (saw b) (row_found settings old a row rows told b p f) ∙ ap (row_actor b.settings old.0.mine.part) (sym made)

  -- the board that is out is the one that was taken
  out_is : board_out m.0.out ≡ b
  out_is = ap (λ (z : Seated). board_out z.0.out) is

  -- the give of the board with one more actor is the event
  pub fork_does : HoldsLast m 0 (OfBoard b) → length b.actors < 4294967295 → (board : BoardState) → board ≡ with_more b → Doing settings m.0 (adding m.0 (board_out m.0.out) (telling_same m.0.mine)) 0 (OfBoard board)
  fork_does last few board more =
      let born : m.0.born ≡ [] = ap (λ (z : Seated). z.0.born) is ∙ p.unborn in
      let given = fork_gives settings m b last (found_taken settings old m b p.live is f) born few (telling_same m.0.mine) (tells_same m.0.actor m.0.mine b (with_more b)) in
      subst (λ x. Doing settings m.0 (adding m.0 (board_out m.0.out) (telling_same m.0.mine)) 0 (OfBoard x)) (sym more)
      (subst (λ x. Doing settings m.0 (adding m.0 x (telling_same m.0.mine)) 0 (OfBoard (with_more b))) (sym out_is) given)

  pub fork_returns : HoldsLast m 0 (OfBoard b) → Returns m.0 (adding m.0 (board_out m.0.out) (telling_same m.0.mine)) 0
  fork_returns last = subst (λ x. Returns m.0 (adding m.0 x (telling_same m.0.mine)) 0) (sym out_is) (returned_more m b (telling_same m.0.mine) last)

  -- it notes the board that it gives
  pub fork_notes : (board : BoardState) → board ≡ with_more b → Notes m.0 (OfBoard board) (adding m.0 (board_out m.0.out) (telling_same m.0.mine))
  fork_notes board more =
      let same : with_more (board_out m.0.out) ≡ board = ap with_more out_is ∙ sym more in
      inr (ap (λ (z : BoardState). z.log) same, same, inl (refl, refl))

  -- the cells of its pin are those of the log that is pinned there
  seen_cells : (q : Pin) → old.0.mine.part.pin ≡ Some q → q.cells ≡ cells_of b.settings (at_position b.log q.at)
  seen_cells q h =
      let x = (found.held.kept.sound.each old.0.actor old.0.mine.part found.fits.part).saw.pin q h in
      x.1 ∙ ap (λ (z : BoardState). cells_of z.settings (at_position z.log q.at)) found.board

  -- the two seats after an actor was made
  module _ (n : Seated) (gave : n ≡ (adding m.0 (board_out m.0.out) (telling_same m.0.mine), rest m.1)) where
    made_is : n ≡ (forks old.0 b old.0.out, old.1)
    made_is = gave ∙ ap (λ (z : Seated). let y : Seated = (adding z.0 (board_out z.0.out) (telling_same z.0.mine), rest z.1) in y) is

    maker_is : (new : Seated) → new ≡ (parting n.0, n.1) → new ≡ (parting (forks old.0 b old.0.out), old.1)
    maker_is new left = left ∙ ap (λ (z : Seated). let y : Seated = (parting z.0, z.1) in y) made_is

    child_is : (kid : Seated) → kid ≡ (child n.0, []) → kid ≡ (fresh_seat old.0 b, [])
    child_is kid right = right ∙ ap (λ (z : Seated). let y : Seated = (child z.0, []) in y) made_is

    pub maker_pass : (new : Seated) (row' : ActorRow) → new ≡ (parting n.0, n.1) → row' ≡ record row { seen = length b.log } → IsPass new a row' rows told
    maker_pass new row' left made = subst (λ z. IsPass z a row' rows told) (sym (maker_is new left)) (record {
      live = refl;
      actor_is = p.actor_is;
      row_is = saw_row row' made;
      told_is = p.told_is;
      out = p.out;
      unborn = refl;
    })

    pub child_pass : (kid : Seated) (actor : ℕ) (row' fresh : ActorRow) → kid ≡ (child n.0, []) → actor ≡ length b.actors → row' ≡ record row { seen = length b.log }
        → ((c : Configuration) (x : ℕ) → actor_of c [] x fresh ≡ record first_actor { seen = row'.seen; floor = row'.floor }) → IsPass kid actor fresh None told
    child_pass kid actor row' fresh right number made first =
        let of_row : ActorRow → Actor = λ z. record first_actor { seen = z.seen; floor = z.floor } in
        let at_floor : Position → Actor = λ z. made_actor b z in
        subst (λ z. IsPass z actor fresh None told) (sym (child_is kid right)) (record {
          live = refl;
          actor_is = sym number;
          row_is = ap at_floor (ap (λ (r : Actor). r.floor) p.row_is) ∙ sym (ap (λ (r : Actor). record r { own = [] }) (first b.settings 0 ∙ ap of_row made));
          told_is = p.told_is;
          out = (refl, refl);
          unborn = refl;
        })

    pub fork_told : HoldsRows old.0 → length b.actors < 4294967295 → (new kid : Seated) → new ≡ (parting n.0, n.1) → kid ≡ (child n.0, []) → Forked (seat_view old.0) (seat_view new.0) (seat_view kid.0)
    fork_told holds few new kid left right =
        let v : Sight = old.0 in
        let c : State = found.core in
        let backed : IsBacked c v = found_backs settings v b found holds in
        let can : Can c v.actor v.mine.part fork = omega (arith, few, ap (λ (x : BoardState). length x.actors) found.board, found.held.kept.sound.counted) in
        let known = forks_seated c v backed can (λ i e. f.backs.own.forked i (has_in i v.forked e)) v.out (λ k h. backed.rows k h) in
        let here = subst (λ x. Forked (seat_view v) (seat_view (forks v x v.out)) (seat_view (fresh_seat v x))) found.board known in
        subst (λ (z : Seated). Forked (seat_view v) (seat_view z.0) (seat_view kid.0)) (sym (maker_is new left))
        (subst (λ (z : Seated). Forked (seat_view v) (seat_view (parting (forks v b v.out))) (seat_view z.0)) (sym (child_is kid right)) here)

    -- what both were told of, and the pin of the maker
    pub maker_near : (words : ℕ) (new : Seated) → new ≡ (parting n.0, n.1) → AreNear words old.0.mine.named → AreNear words new.0.mine.named
    maker_near words new left near = subst (λ (z : Seated). AreNear words z.0.mine.named) (sym (maker_is new left)) near

    pub child_near : (words : ℕ) (kid : Seated) → kid ≡ (child n.0, []) → AreNear words old.0.mine.named → AreNear words kid.0.mine.named
    child_near words kid right near = subst (λ (z : Seated). AreNear words z.0.mine.named) (sym (child_is kid right)) near

    pub maker_cells : (new : Seated) → new ≡ (parting n.0, n.1) → HasCells new.0.mine
    maker_cells new left = subst (λ (z : Seated). HasCells z.0.mine) (sym (maker_is new left)) seen_cells

    pub child_cells : (kid : Seated) → kid ≡ (child n.0, []) → HasCells kid.0.mine
    child_cells kid right = subst (λ (z : Seated). HasCells z.0.mine) (sym (child_is kid right)) (λ q h. absurd (none-some q h))

    -- both have seen the whole log
    pub maker_at : (at : Position) → at ≡ end_of b.log → (new : Seated) → new ≡ (parting n.0, n.1) → IsAt at new.0.mine
    maker_at at seen new left = seen ∙ ap (λ (z : Seated). end_of z.0.mine.log) (sym (maker_is new left))

    pub child_at : (at : Position) → at ≡ end_of b.log → (kid : Seated) → kid ≡ (child n.0, []) → IsAt at kid.0.mine
    child_at at seen kid right = seen ∙ ap (λ (z : Seated). end_of z.0.mine.log) (sym (child_is kid right))

    -- the maker keeps the rows of those that it absorbed; its child has absorbed nobody
    pub maker_gone : (new : Seated) (gone : List Gone) → new ≡ (parting n.0, n.1) → HasGone old.0.absorbed gone → HasGone new.0.absorbed gone
    maker_gone new gone left h = subst (λ (z : Seated). HasGone z.0.absorbed gone) (sym (maker_is new left)) h

    pub child_gone : (kid : Seated) (gone : List Gone) → kid ≡ (child n.0, []) → IsSpare gone → HasGone kid.0.absorbed gone
    child_gone kid gone right h = subst (λ (z : Seated). HasGone z.0.absorbed gone) (sym (child_is kid right)) h

-- an actor that was just made has no fresh page
pub made_word : (words : ℕ) (maker fresh : ActorRow) → ((c : Configuration) (x : ℕ) → actor_of c [] x fresh ≡ record first_actor { seen = maker.seen; floor = maker.floor }) → Configuration → HasWord words fresh.hand.fresh
made_word words maker fresh first c = subst (HasWord words) (sym (ap (λ (r : Actor). r.fresh) (first c 0))) tt
