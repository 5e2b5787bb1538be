-- From what an event makes of a state's view to what it makes of its seat's.
use Rattle.std.proofs.Common.{◌≡◌, ℕ, List, [], Bool, refl, sym, ap, ◌∙◌, subst, Option, Some}
use Rattle.std.specs.Prelude.{slice_get}
use Rattle.std.specs.List.{AllByRecursion}
use Rattle.std.proofs.lemmas.Option.{same_Some}
use Rattle.mi_core.specs.Events.{Can, Event, after}
use Rattle.mi_core.specs.Named.{Named}
use Rattle.mi_core.specs.Effects.{trim_leaf}
use Rattle.mi_core.specs.Pages.{node_or_fresh}
use Rattle.mi_core.specs.State.{State, node_at}
use Rattle.mi_entries.specs.Actors.{Actor}
use Rattle.mi_latch.specs.declared.slots.Slot.{Slot}
use Rattle.mi_latch.specs.Views.{Sight}
use Rattle.mi_latch.specs.Wanting as latch
use Rattle.mi_page.specs.Nodes.{Node, item_count}
use Rattle.mi_solo.specs.Onward.{Makes}
use Rattle.mi_solo.specs.Viewing.{pinned_log, shown_to}
use Rattle.mi_world.specs.View.{View}
use Rattle.mi_hall.specs.Knowledge.{IsShown, Knowledge, Knows, reading, seeing, view_by}
use Rattle.mi_hall.specs.Places.{AreNamed, BoardMakes, BothMake, HasRows, IsBacked, PageMakes, gives_board, gives_both, gives_page}
use Rattle.mi_hall.specs.Seats.{knowledge, seat_view}
use Rattle.mi_hall.proofs.SeatLemmas.{pinned_seen, seat_is, seat_knows, seat_shows, shows_named}

-- a relation of views that two seats have
pub carries : (R : View → View → Type 0) (a b x y : View) → a ≡ x → b ≡ y → R x y → R a b
carries R a b x y e f z = subst (λ i. R i b) (sym e) (subst (R x) (sym f) z)

-- what an event makes of the view of one who knows so much, by what it makes of the state's
abbrev pub Lifts : (View → View → Type 0) → View → View → Knowledge → Knowledge → List Named → Type 0
Lifts R v w n m names = Knows v n → AllByRecursion (IsShown w) names → R (view_by n v) (view_by m w)

module _ (c : State) (v : Sight) (b : IsBacked c v) (e : Event) (can : Can c v.actor v.mine.part e) (q : Actor) (names : List Named) (named : AreNamed (after c v.actor v.mine.part e) names) where
  abbrev t : State
  t = after c v.actor v.mine.part e

  abbrev n : Knowledge
  n = knowledge v

  abbrev before : View
  before = shown_to c v.actor v.mine.part

  abbrev then : View
  then = shown_to (after c v.actor v.mine.part e) v.actor q

  was : seat_view v ≡ view_by (knowledge v) (shown_to c v.actor v.mine.part)
  was = seat_is c v b.fits b.rows

  knows : Knows (shown_to c v.actor v.mine.part) (knowledge v)
  knows = seat_knows c b.kept v b.fits

  shown : AllByRecursion (IsShown (shown_to (after c v.actor v.mine.part e) v.actor q)) names
  shown = shows_named t v.actor q names named

  pub at_board : (found : q.found ≡ v.mine.part.found) (told : Bool) (out : List (ℕ × Slot)) → HasRows (after c v.actor v.mine.part e) (gives_board v q (after c v.actor v.mine.part e).board told names out)
      → (R : View → View → Type 0) → Lifts R (shown_to c v.actor v.mine.part) (shown_to (after c v.actor v.mine.part e) v.actor q) (knowledge v) (seeing (shown_to (after c v.actor v.mine.part e) v.actor q) told names (knowledge v)) names
      → R (seat_view v) (seat_view (gives_board v q (after c v.actor v.mine.part e).board told names out))
  at_board found told out rows R lift =
      let w : Sight = gives_board v q t.board told names out in
      carries R (seat_view v) (seat_view w) (view_by n before) (view_by (seeing then told names n) then) was
      (seat_shows t w refl refl rows refl ∙ ap (λ o. view_by (record (seeing then told names n) { found = o }) then) found) (lift knows shown)

  module _ (found : q.found ≡ v.mine.part.found) (node : Node) (here : node_at (after c v.actor v.mine.part e).pages q.page ≡ Some node) (out : List (ℕ × Slot)) where
    abbrev counted : Option Node → ℕ
    counted o = item_count (trim_leaf q.floor.updates (node_or_fresh o))

    pub at_page : (after c v.actor v.mine.part e).board ≡ c.board → q.pin ≡ v.mine.part.pin → q.claim ≡ v.mine.part.claim
        → HasRows (after c v.actor v.mine.part e) (gives_page v q node names out)
        → (R : View → View → Type 0) → Lifts R (shown_to c v.actor v.mine.part) (shown_to (after c v.actor v.mine.part e) v.actor q) (knowledge v) (reading (shown_to (after c v.actor v.mine.part e) v.actor q) names (knowledge v)) names
        → R (seat_view v) (seat_view (gives_page v q node names out))
    at_page board pin claim rows R lift =
        let w : Sight = gives_page v q node names out in
        let k = b.fits.knows in
        let note = sym k.note.settings ∙ ap (λ z. z.settings) (sym board) in
        let pins = ap (pinned_log v.mine.log) pin ∙ pinned_seen v.mine.part.seen c.board.log v.mine.log v.mine.part.pin k.log k.pin
        ∙ ap (λ z. pinned_log z.log v.mine.part.pin) (sym board) ∙ ap (pinned_log t.board.log) (sym pin) in
        let wants = k.wanted ∙ ap (λ z. latch.leaf_wanted z.settings z.log v.mine.part.claim) (sym board) ∙ ap (latch.leaf_wanted t.board.settings t.board.log) (sym claim) in
        carries R (seat_view v) (seat_view w) (view_by n before) (view_by (reading then names n) then) was
        (seat_shows t w note pins rows wants
        ∙ ap (λ o. view_by (record (reading then names n) { high = node.high; items = item_count (trim_leaf q.floor.updates node); found = o }) then) found
        ∙ ap (λ o. view_by (record (reading then names n) { high = (node_or_fresh o).high; items = counted o }) then) (sym here)) (lift knows shown)

    pub at_both : HasRows (after c v.actor v.mine.part e) (gives_both v q (after c v.actor v.mine.part e).board node names out)
        → (R : View → View → Type 0)
        → Lifts R (shown_to c v.actor v.mine.part) (shown_to (after c v.actor v.mine.part e) v.actor q) (knowledge v)
        (reading (shown_to (after c v.actor v.mine.part e) v.actor q) names (seeing (shown_to (after c v.actor v.mine.part e) v.actor q) v.mine.told [] (knowledge v))) names
        → R (seat_view v) (seat_view (gives_both v q (after c v.actor v.mine.part e).board node names out))
    at_both rows R lift =
        let w : Sight = gives_both v q t.board node names out in
        let m : Knowledge = reading then names (seeing then v.mine.told [] n) in
        carries R (seat_view v) (seat_view w) (view_by n before) (view_by m then) was
        (seat_shows t w refl refl rows refl
        ∙ ap (λ o. view_by (record m { high = node.high; items = item_count (trim_leaf q.floor.updates node); found = o }) then) found
        ∙ ap (λ o. view_by (record m { high = (node_or_fresh o).high; items = counted o }) then) (sym here)) (lift knows shown)

-- the record that the event gives its actor, which has tried no shard
abbrev pub Gives : Event → Type 0
Gives e = (s : State) (a : ℕ) (r : Actor) → slice_get s.actors a ≡ Some r → Can s a r e → (q : Actor) × (slice_get (after s a r e).actors a ≡ Some q) × (q.found ≡ r.found)

-- nor changed the board, its claim or its pin
abbrev pub GivesPage : Event → Type 0
GivesPage e = (s : State) (a : ℕ) (r : Actor) → slice_get s.actors a ≡ Some r → Can s a r e
    → (q : Actor) × (slice_get (after s a r e).actors a ≡ Some q) × (q.found ≡ r.found) × (q.pin ≡ r.pin) × (q.claim ≡ r.claim) × ((after s a r e).board ≡ s.board)

pub board_lifts : (e : Event) (told : Bool → Bool) (relation lifted : State → View → View → Type 0) → Makes e relation → Gives e
    → ((s : State) (v w : View) (n : Knowledge) → Knows v n → (names : List Named) → AllByRecursion (IsShown w) names → relation s v w → lifted s (view_by n v) (view_by (seeing w (told n.told) names n) w))
    → BoardMakes e told lifted
board_lifts e told relation lifted makes gives lift c v b can q now names named out rows =
    let x = gives c v.actor v.mine.part b.fits.part can in
    let same : x.0 ≡ q = same_Some x.0 q (sym x.1 ∙ now) in
    at_board c v b e can q names named (ap (λ (z : Actor). z.found) (sym same) ∙ x.2) (told v.mine.told) out rows (lifted c)
    (λ knows shown. lift c (shown_to c v.actor v.mine.part) (shown_to (after c v.actor v.mine.part e) v.actor q) (knowledge v) knows names shown (makes c b.kept v.actor v.mine.part q b.fits.part b.going can now))

pub page_lifts : (e : Event) (relation lifted : State → View → View → Type 0) → Makes e relation → GivesPage e
    → ((s : State) (v w : View) (n : Knowledge) → Knows v n → (names : List Named) → AllByRecursion (IsShown w) names → relation s v w → lifted s (view_by n v) (view_by (reading w names n) w))
    → PageMakes e lifted
page_lifts e relation lifted makes gives lift c v b can q now node here names named out rows =
    let x = gives c v.actor v.mine.part b.fits.part can in
    let same : x.0 ≡ q = same_Some x.0 q (sym x.1 ∙ now) in
    at_page c v b e can q names named (ap (λ (z : Actor). z.found) (sym same) ∙ x.2) node here out x.5 (ap (λ (z : Actor). z.pin) (sym same) ∙ x.3) (ap (λ (z : Actor). z.claim) (sym same) ∙ x.4) rows (lifted c)
    (λ knows shown. lift c (shown_to c v.actor v.mine.part) (shown_to (after c v.actor v.mine.part e) v.actor q) (knowledge v) knows names shown (makes c b.kept v.actor v.mine.part q b.fits.part b.going can now))

pub both_lift : (e : Event) (relation lifted : State → View → View → Type 0) → Makes e relation → Gives e
    → ((s : State) (v w : View) (n : Knowledge) → Knows v n → (names : List Named) → AllByRecursion (IsShown w) names → relation s v w → lifted s (view_by n v) (view_by (reading w names (seeing w n.told [] n)) w))
    → BothMake e lifted
both_lift e relation lifted makes gives lift c v b can q now node here names named out rows =
    let x = gives c v.actor v.mine.part b.fits.part can in
    let same : x.0 ≡ q = same_Some x.0 q (sym x.1 ∙ now) in
    at_both c v b e can q names named (ap (λ (z : Actor). z.found) (sym same) ∙ x.2) node here out rows (lifted c)
    (λ knows shown. lift c (shown_to c v.actor v.mine.part) (shown_to (after c v.actor v.mine.part e) v.actor q) (knowledge v) knows names shown (makes c b.kept v.actor v.mine.part q b.fits.part b.going can now))
