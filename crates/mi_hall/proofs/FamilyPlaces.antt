-- What the making and the absorbing of an actor make of a seat's view.
use Rattle.std.proofs.Common.{◌≡◌, ℕ, ◌<◌, ◌≤◌, List, [], ◌∷◌, ◌++◌, length, take, drop, Bool, true, false, cond, nat_le, max, refl, sym, ap, ◌∙◌, subst, arith, inl, inr, ◌⊎◌}
use Rattle.std.proofs.lemmas.Bool.Decides.{nat_tests}
use Rattle.std.proofs.lemmas.List.{map-append, take-append-drop}
use Rattle.mi_base.specs.declared.records.LogEvent.{LogEvent}
use Rattle.mi_base.specs.Prefixes.{has}
use Rattle.mi_core.specs.Events.{Can, after, made_actor, more_seen}
use Rattle.mi_core.specs.Events.Event.{absorb, fork, see}
use Rattle.mi_core.specs.Effects.{saw}
use Rattle.mi_core.specs.State.{State}
use Rattle.mi_core.proofs.KeptLemmas.{on_board}
use Rattle.mi_entries.specs.Actors.{Actor}
use Rattle.mi_latch.specs.declared.slots.Slot.{Slot}
use Rattle.mi_latch.specs.Ends.{over}
use Rattle.mi_latch.specs.Views.{Mine, Sight}
use Rattle.mi_solo.specs.Viewing.{pinned_log, shown_to}
use Rattle.mi_tree.specs.Growing.{Grows}
use Rattle.mi_world.specs.Families.{Absorbs, Forked, NotForked}
use Rattle.mi_world.specs.View.{View}
use Rattle.mi_hall.specs.Knowledge.{Knowledge, blended, forking, seeing, view_by}
use Rattle.mi_hall.specs.Places.{HasRows, IsBacked, absorbing, forks, fresh_seat, gives_board}
use Rattle.mi_hall.specs.Seats.{knowledge, seat_view}
use Rattle.mi_hall.proofs.FamilyRelations.{absorbs_by, forked_by, not_forked_by}
use Rattle.mi_hall.proofs.PlaceLemmas.{carries}
use Rattle.mi_hall.proofs.SeatLemmas.{pinned_seen, seat_is, seat_knows, seat_shows, take_take}

-- the actor that is made has the number of actors before it
pub forks_seated : (c : State) (v : Sight) → IsBacked c v → Can c v.actor v.mine.part fork → ((i : ℕ) → has i v.forked ≡ true → i < v.mine.count)
    → (out : List (ℕ × Slot)) → HasRows (after c v.actor v.mine.part fork) (forks v c.board out) → Forked (seat_view v) (seat_view (forks v c.board out)) (seat_view (fresh_seat v c.board))
forks_seated c v b can fewer out rows =
    let a : ℕ = v.actor in
    let r : Actor = v.mine.part in
    let t : State = after c a r fork in
    let n : Knowledge = knowledge v in
    let child : ℕ = length c.board.actors in
    let then : View = shown_to t a (saw c.board r) in
    let new : View = shown_to t child (made_actor c.board r.floor) in
    let m : Knowledge = forking then child n in
    let few = b.fits.knows.count in
    let is = forked_by c b.kept a r b.fits.part b.going can child n (seat_knows c b.kept v b.fits) (λ i e. let l = fewer i e in omega (arith, b.kept.sound.counted)) (on_board c b.kept.sound a r b.fits.part) in
    carries (λ x y. Forked x y (seat_view (fresh_seat v c.board))) (seat_view v) (seat_view (forks v c.board out)) (view_by n (shown_to c a r)) (view_by m then)
    (seat_is c v b.fits b.rows) (seat_shows t (forks v c.board out) refl refl rows refl)
    (subst (Forked (view_by n (shown_to c a r)) (view_by m then)) (sym (seat_shows t (fresh_seat v c.board) refl refl (λ k e. absurd cc) refl)) is)

-- no actor was made
pub not_forks_seated : (c : State) (v : Sight) → IsBacked c v → (out : List (ℕ × Slot)) → HasRows c (gives_board v (saw c.board v.mine.part) c.board v.mine.told [] out)
    → NotForked (seat_view v) (seat_view (gives_board v (saw c.board v.mine.part) c.board v.mine.told [] out))
not_forks_seated c v b out rows =
    let a : ℕ = v.actor in
    let r : Actor = v.mine.part in
    let t : State = after c a r see in
    let then : View = shown_to t a (saw c.board r) in
    let w : Sight = gives_board v (saw c.board r) c.board v.mine.told [] out in
    carries NotForked (seat_view v) (seat_view w) (view_by (knowledge v) (shown_to c a r)) (view_by (seeing then v.mine.told [] (knowledge v)) then)
    (seat_is c v b.fits b.rows) (seat_shows t w refl refl rows refl) (not_forked_by c b.kept a r b.fits.part b.going (knowledge v) (seat_knows c b.kept v b.fits))

-- parts of one log
take_grows : (i j : ℕ) (l : List LogEvent) → i ≤ j → Grows (take i l) (take j l)
take_grows i j l h = record { by = drop i (take j l); is = sym (take-append-drop i (take j l)) ∙ ap (λ z. z ++ drop i (take j l)) (take_take i j l h) }

-- the longer one of two parts of a log
longer : (i j : ℕ) (l : List LogEvent) → cond (nat_le i j) (take j l) (take i l) ≡ take (max i j) l
longer i j l =
    let P : Bool → Type 0 = λ z. nat_le i j ≡ z → cond z (take j l) (take i l) ≡ take (max i j) l in
    (elim (nat_le i j) as P [
      | true ↦ λ e. ap (λ k. take k l) (grind (arith, nat_tests))
      | false ↦ λ e. ap (λ k. take k l) (grind (arith, nat_tests))
    ]) refl

one_of_both : (z : Bool) (x y : List LogEvent) → (cond z y x ≡ x) ⊎ (cond z y x ≡ y)
one_of_both true x y = inr refl
one_of_both false x y = inl refl

pub absorbs_seated : (c : State) (v y : Sight) → IsBacked c v → IsBacked c y → Can c v.actor v.mine.part (absorb y.actor y.mine.part)
    → HasRows c (absorbing v y) → Absorbs (seat_view v) (seat_view y) (seat_view (absorbing v y))
absorbs_seated c v y b d can rows =
    let a : ℕ = v.actor in
    let r : Actor = v.mine.part in
    let u : Actor = y.mine.part in
    let t : State = after c a r (absorb y.actor u) in
    let log : List LogEvent = c.board.log in
    let w : Sight = absorbing v y in
    let seen : List LogEvent = cond (nat_le r.seen u.seen) y.mine.log v.mine.log in
    let whole : seen ≡ take (max r.seen u.seen) log = ap (λ l. cond (nat_le r.seen u.seen) l v.mine.log) d.fits.knows.log ∙ ap (cond (nat_le r.seen u.seen) (take u.seen log)) b.fits.knows.log ∙ longer r.seen u.seen log in
    let mine : Grows v.mine.log seen = subst (λ l. Grows l seen) (sym b.fits.knows.log) (subst (Grows (take r.seen log)) (sym whole) (take_grows r.seen (max r.seen u.seen) log (omega arith))) in
    let its : Grows y.mine.log seen = subst (λ l. Grows l seen) (sym d.fits.knows.log) (subst (Grows (take u.seen log)) (sym whole) (take_grows u.seen (max r.seen u.seen) log (omega arith))) in
    let then : View = shown_to t a (more_seen u r) in
    let known : knowledge w ≡ blended seen y.actor u.own (knowledge v) (knowledge y) =
    ap (λ l. record (blended seen y.actor u.own (knowledge v) (knowledge y)) { absorbed = l }) (map-append (λ (x : ℕ × Mine). record { actor = x.0; own = x.1.part.own }) v.absorbed ((y.actor, over y.mine) ∷ y.absorbed)) in
    let pins : pinned_log seen r.pin ≡ pinned_log log r.pin = pinned_seen (max r.seen u.seen) log seen r.pin whole (λ p e. let l = b.fits.knows.pin p e in omega arith) in
    carries (λ x z. Absorbs x (seat_view y) z) (seat_view v) (seat_view w) (view_by (knowledge v) (shown_to c a r)) (view_by (blended seen y.actor u.own (knowledge v) (knowledge y)) then)
    (seat_is c v b.fits b.rows) (seat_shows t w (sym b.fits.knows.note.settings) pins rows b.fits.knows.wanted ∙ ap (λ n. view_by n then) known)
    (subst (λ x. Absorbs (view_by (knowledge v) (shown_to c a r)) x (view_by (blended seen y.actor u.own (knowledge v) (knowledge y)) then)) (sym (seat_is c y d.fits d.rows))
    (absorbs_by c b.kept a r b.fits.part b.going y.actor u can (knowledge v) (knowledge y) (seat_knows c b.kept v b.fits) (seat_knows c d.kept y d.fits) seen mine its
    (one_of_both (nat_le r.seen u.seen) v.mine.log y.mine.log)))
