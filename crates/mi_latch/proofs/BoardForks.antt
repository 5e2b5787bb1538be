-- The give of the board with one more actor, which has no seat yet.
use Rattle.std.proofs.Common.{◌≡◌, ◌≢◌, inl, inr, ⊎_elim, ℕ, ◌+◌, ◌<◌, List, [], ◌∷◌, ◌++◌, length, take, Some, refl, sym, ap, ◌∙◌, subst, arith, length-append, length-set}
use Rattle.std.specs.Prelude.{slice_get, slice_set}
use Rattle.std.proofs.Math.Seq.{take-length}
use Rattle.std.proofs.lemmas.Option.{none-some, slice_get_within}
use mathlib.Core.Logic.{dite}
use native.Mathlib.Decide.{dec_lt}
use Rattle.atomic_table.specs.Table.{rest}
use Rattle.mi_base.specs.Configuration.{Configuration}
use Rattle.mi_board.specs.Actors.{idle}
use Rattle.mi_board.specs.Boards.{BoardState, with_more}
use Rattle.mi_core.specs.Effects.{saw}
use Rattle.mi_core.specs.Events.{Can, after, made_actor}
use Rattle.mi_core.specs.Events.Event.{fork}
use Rattle.mi_core.specs.State.{State}
use Rattle.mi_core.proofs.ActorLemmas.{set_there}
use Rattle.mi_core.proofs.FrameEvents.{event_spares}
use Rattle.mi_entries.specs.Actors.{Actor}
use Rattle.mi_entries.proofs.EntryLemmas.{get_last, get_more}
use Rattle.mi_latch.specs.Wanting.{given_in}
use Rattle.mi_latch.specs.declared.slots.Slot.TheVariants.{OfBoard}
use Rattle.mi_latch.specs.Acts.{GivesBy}
use Rattle.mi_latch.specs.Boards.{IsTold, Telling, seeing}
use Rattle.mi_latch.specs.Ends.{adding, child_mine}
use Rattle.mi_latch.specs.Found.{FoundBoard, MayTell}
use Rattle.mi_latch.specs.Layout.{at}
use Rattle.mi_latch.specs.Shows.{Has, HasKey, One, stands, stands_if}
use Rattle.mi_latch.specs.Views.{Doing, Fits, HoldsLast, IsGoing, Mine, Seated, Sight}
use Rattle.mi_latch.proofs.BoardGives.{board_knows}
use Rattle.mi_latch.proofs.BoardTold.{tells_so}
use Rattle.mi_latch.proofs.EndingDoings.{in_either}
use Rattle.mi_latch.proofs.Ones.{at_board, of_board}
use Rattle.mi_latch.proofs.Rules.{in_left, in_right, own}
use Rattle.mi_latch.proofs.Steps.{fits_made, marks_on, me, out_has, rest_has}
use Rattle.mi_latch.proofs.Writing.{writes_frame}

module _ (c : State) (a : ℕ) (r : Actor) (was : BoardState) (is : c.board ≡ was) (counted : length c.board.actors ≡ length c.actors) where
  abbrev d : State
  d = after c a r fork

  abbrev made : Actor
  made = made_actor was r.floor

  as_many : length was.actors ≡ length c.actors
  as_many = ap (λ (x : BoardState). length x.actors) (sym is) ∙ counted

  actors_are : d.actors ≡ slice_set c.actors a (saw was r) ++ made ∷ []
  actors_are = ap (λ (x : BoardState). slice_set c.actors a (saw x r) ++ made_actor x r.floor ∷ []) is

  as_long : length (slice_set c.actors a (saw was r)) ≡ length was.actors
  as_long = length-set c.actors a (saw was r) ∙ sym as_many

  pub one_actor_more : length d.actors ≡ length was.actors + 1
  one_actor_more = ap length actors_are ∙ length-append (slice_set c.actors a (saw was r)) (made ∷ []) ∙ ap (λ (n : ℕ). n + 1) as_long

  -- what others know stays
  pub others_stay : (can : Can c a r fork) (x : ℕ) (y : Mine) → x ≢ a → Fits c x y → Fits d x y
  others_stay can x y ne g = record {
    part = event_spares fork c a r can x y.part g.part ne tt;
    knows = record {
      log = g.knows.log;
      named = g.knows.named;
      told = g.knows.told;
      wanted = g.knows.wanted;
      least = g.knows.least;
      first = g.knows.first;
      pin = g.knows.pin;
      count = (let n = g.knows.count in omega (arith, n, one_actor_more, as_many));
      note = record { settings = g.knows.note.settings; allotted = g.knows.note.allotted; given = g.knows.note.given };
      passed = g.knows.passed;
    };
  }

  pub maker_there : slice_get c.actors a ≡ Some r → slice_get d.actors a ≡ Some (saw was r)
  maker_there there = ap (λ l. slice_get l a) actors_are ∙ get_more (slice_set c.actors a (saw was r)) (made ∷ []) a (saw was r) (set_there c.actors a (saw was r) r there)

  -- the new actor knows what its maker knows
  pub child_fits : (m : Mine) → m.part ≡ r → Fits c a m → Fits d (length was.actors) (child_mine was m)
  child_fits m same f = record {
    part = ap (λ l. slice_get l (length was.actors)) actors_are ∙ ap (slice_get (slice_set c.actors a (saw was r) ++ made ∷ [])) (sym as_long) ∙ get_last (slice_set c.actors a (saw was r)) made
        ∙ ap (λ (x : Actor). Some (made_actor was x.floor)) (sym same);
    knows = record {
      log = sym (take-length was.log) ∙ ap (λ (x : BoardState). take (length was.log) x.log) (sym is);
      named = f.knows.named;
      told = f.knows.told;
      wanted = refl;
      least = omega (arith, ap (λ (x : BoardState). x.height) is);
      first = f.knows.first;
      pin = λ p h. absurd (none-some p h);
      count = omega (arith, one_actor_more);
      note = record { settings = ap (λ (x : BoardState). x.settings) is; allotted = omega (arith, ap (λ (x : BoardState). x.allotted) is); given = omega (arith, ap given_in is) };
      passed = λ p h. absurd (none-some p h);
    };
  }

-- the board goes back with one more actor: it was made
pub fork_is : (settings : Configuration) (m : Seated) (was : BoardState) (t : Telling) → HoldsLast m 0 (OfBoard was) → m.0.born ≡ [] → length was.actors < 4294967295
    → IsTold m.0.actor m.0.mine was (with_more was) (saw was m.0.mine.part) t → GivesBy settings fork m.0 (adding m.0 was t) 0 (OfBoard (with_more was))
fork_is settings m was t l unborn few told c held b =
    let v : Sight = m.0 in
    let a : ℕ = v.actor in
    let r : Actor = v.mine.part in
    let k = held.kept in
    let f = me settings c held v l.live b in
    let mine = b.own.mine l.live in
    let is : c.board ≡ was = of_board c.board was (b.values 0 (OfBoard was) (out_has v 0 (OfBoard was) (rest v.out) l.out)) in
    let d : State = after c a r fork in
    let w : Sight = adding v was t in
    let count : ℕ = length was.actors in
    let same = as_many c a r was is k.sound.counted in
    let can : Can c a r fork = omega (arith, few, same) in
    let size = one_actor_more c a r was is k.sound.counted in
    let old = others_stay c a r was is k.sound.counted can in
    let own_now : Fits d a (seeing (saw was r) (with_more was) t v.mine) = record {
      part = maker_there c a r was is k.sound.counted f.part;
      knows = board_knows c k a v.mine f mine.going fork can was (with_more was) (saw was r) t is (ap with_more is) told;
    } in
    let child_now = child_fits c a r was is k.sound.counted v.mine refl f in
    let mine_below : a < length c.actors = slice_get_within c.actors a r f.part in
    let in_v : (x : ℕ) (y : Mine) → Has v.absorbed x y → Has (stands v) x y = λ x y h. subst (λ z. Has (stands_if z ((v.actor, v.mine) ∷ v.born ++ v.absorbed)) x y) (sym l.live) (inr (subst (λ (l : List (ℕ × Mine)). Has (l ++ v.absorbed) x y) (sym unborn) h)) in
    let absorbed_below : (x : ℕ) → HasKey v.absorbed x → x < length c.actors = λ x h. fits_made c x h.0 (b.records x h.0 (in_v x h.0 h.1)) in
    let one : One (at c) (at d) 0 (OfBoard (with_more was)) = record { here = ap (λ x. OfBoard (with_more x)) is; others = (at_board c (with_more c.board)).others } in
    let writes = writes_frame (at c) (at d) 0 (OfBoard (with_more was)) (rest v.out) one (λ j y h. b.values j y (rest_has v 0 (OfBoard was) (rest v.out) l.out j y h)) l.others in
    let knows_more : length (with_more was).actors ≡ count + 1 = length-append was.actors (idle ∷ []) in (
      record {
        can = can;
        changes = record {
          next = inl record { actor = r; there = f.part; going = mine.going; event = fork; can = can; is = refl };
          own = record {
            mine = λ h. record { small = mine.small; going = mine.going };
            born = λ x y h. ⊎_elim (λ e. subst (λ (z : ℕ). IsGoing z y) e.0 (subst (λ (z : Mine). IsGoing count z) e.1 (record { small = few; going = refl }))) (λ z. absurd z) h;
            over = b.own.over;
            forked = λ x h. ⊎_elim (λ z. let low = b.own.forked x z in let n = f.knows.count in omega (arith, low, n, same, knows_more))
                (λ z. ⊎_elim (λ e. omega (arith, e, knows_more)) (λ z. absurd z) z) (in_either v.forked (count ∷ []) x h);
          };
          records = λ x y h. ⊎_elim
              (λ e. subst (λ (z : ℕ). Fits d z y) e.0 (subst (λ (z : Mine). Fits d a z) e.1 own_now))
              (λ h. ⊎_elim (λ e. subst (λ (z : ℕ). Fits d z y) e.0 (subst (λ (z : Mine). Fits d count z) e.1 child_now))
              (λ g. old x y (λ e. b.unjoined (y, subst (λ (z : ℕ). Has v.absorbed z y) e g)) (b.records x y (in_v x y g))) h) h;
          others = λ x y g not_mine. old x y (λ e. not_mine (v.mine, subst (λ (z : ℕ). Has (stands v) z v.mine) (sym e) (own v l.live))) g;
          values = writes.values;
          rest = writes.rest;
          mark = λ word h k g near. absurd (omega arith);
          marks = λ i word ne h. marks_on c d i word (λ k g near. refl) h;
        };
      },
      record {
        back = λ x h. ⊎_elim (λ e. inl (v.mine, subst (λ (z : ℕ). Has (stands v) z v.mine) e.0 (own v l.live)))
            (λ g. ⊎_elim (λ e. inr (let z = e.0 in omega (arith, same))) (λ g. inl (h.0, in_v x h.0 g)) g) h.1;
        born = λ x h. ⊎_elim (λ e. inr (let z = e.0 in omega (arith, same))) (λ z. absurd z) h.1;
        unborn = λ x h. ⊎_elim (λ e. let z = e.0 in ((λ y. absurd (omega (arith, same))), λ y. let below = absorbed_below x y in absurd (omega (arith, same)))) (λ z. absurd z) h.1;
        unjoined = b.unjoined;
        forked = λ x h. in_left v.forked (count ∷ []) x h;
        new = λ x h. dite (dec_lt x (length c.actors)) (λ lt. inl lt)
            (λ ge. let here : count ≡ x = omega (arith, same, size) in inr (in_right v.forked (count ∷ []) x (inl here), (let z = mine_below in omega (arith, same))));
      },
    )

pub fork_does : (settings : Configuration) (m : Seated) (was : BoardState) (t : Telling) → HoldsLast m 0 (OfBoard was) → m.0.born ≡ [] → length was.actors < 4294967295
    → IsTold m.0.actor m.0.mine was (with_more was) (saw was m.0.mine.part) t → Doing settings m.0 (adding m.0 was t) 0 (OfBoard (with_more was))
fork_does settings m was t l unborn few told c held b = let is = fork_is settings m was t l unborn few told c held b in
    (after c m.0.actor m.0.mine.part fork, is.0.changes, is.1)

-- the same from the state that the take of the board found
pub fork_gives : (settings : Configuration) (m : Seated) (was : BoardState) → HoldsLast m 0 (OfBoard was) → FoundBoard settings m.0.actor m.0.mine (rest m.0.out) was → m.0.born ≡ [] → length was.actors < 4294967295
    → (t : Telling) → MayTell m.0.actor m.0.mine was (with_more was) t → Doing settings m.0 (adding m.0 was t) 0 (OfBoard (with_more was))
fork_gives settings m was l found unborn few t may =
    let a : ℕ = m.0.actor in
    let r : Actor = m.0.mine.part in
    let s : State = found.core in
    let counted = found.held.kept.sound.counted in
    let can : Can s a r fork = omega (arith, few, as_many s a r was found.board counted) in
    fork_does settings m was t l unborn few
    (tells_so settings a m.0.mine (rest m.0.out) was found fork can (saw was r) (maker_there s a r was found.board counted found.fits.part) (with_more was) (ap with_more found.board) t may (ap (λ (x : BoardState). length x.log) (sym found.board)) refl)
