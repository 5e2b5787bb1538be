-- A section of a page, from a seat's take of it to its give.
use Rattle.std.proofs.Common.{◌≡◌, ℕ, ◌+◌, ◌<◌, Bool, true, IsTrue, refl, sym, ap, ◌∙◌, subst, set, Option, Some, None, get_or-set_same}
use Rattle.std.specs.Prelude.{slice_get}
use Rattle.atomic_table.specs.Seated.{TableId}
use Rattle.atomic_table.specs.Table.{rest}
use Rattle.mi_base.specs.Configuration.{Configuration}
use Rattle.mi_core.specs.Effects.{noted}
use Rattle.mi_core.specs.Events.{Can, Event, after}
use Rattle.mi_core.specs.Events.Event.{visit}
use Rattle.mi_core.specs.Kept.{Kept}
use Rattle.mi_core.specs.Named.{IsNamed, Named}
use Rattle.mi_core.specs.State.{State, node_at}
use Rattle.mi_core.proofs.ActorLemmas.{set_there}
use Rattle.mi_core.proofs.PageLemmas.{within}
use Rattle.mi_core.proofs.LaterEvents.{event_leads_on}
use Rattle.mi_entries.specs.Actors.{Actor}
use Rattle.mi_entries.specs.Records.{Rows, shard_at}
use Rattle.mi_latch.specs.declared.slots.Slot.{Slot}
use Rattle.mi_latch.specs.declared.slots.Slot.TheVariants.{OfPage}
use Rattle.mi_latch.specs.Naming.{names_of}
use Rattle.mi_latch.specs.PageSteps.{MakesPage, noting}
use Rattle.mi_latch.specs.Takes.{Finds, see_none, took}
use Rattle.mi_latch.specs.Views.{Doing, Fits, HoldsLast, IsOne, Seated, Sight, now}
use Rattle.mi_latch.proofs.Ones.{of_page, of_rows, read_page, read_shard}
use Rattle.mi_latch.proofs.PageChanges.{named_later}
use Rattle.mi_latch.proofs.PageDoings.{page_does}
use Rattle.mi_latch.proofs.PageMakes.{visit_makes}
use Rattle.mi_latch.proofs.PageNames.{names_stand}
use Rattle.mi_latch.proofs.Steps.{me}
use Rattle.mi_page.specs.Nodes.{Node}
use Rattle.mi_solo.specs.declared.rows.ActorRow.{ActorRow}
use Rattle.mi_solo.specs.OnPages.{KeepsRow, TurnsPage}
use Rattle.mi_solo.specs.Seeking.{HasSibling}
use Rattle.mi_solo.specs.States.{pin_of}
use Rattle.mi_solo.proofs.DescentLemmas.{has_sibling}
use Rattle.mi_world.specs.View.{View}
use Rattle.mi_hall.specs.Knowledge.{is_named}
use Rattle.mi_hall.specs.Passes.{AreNear, HasOut, IsPass, PassState, names_out, row_actor, turning}
use Rattle.mi_hall.specs.Places.{HasRows, HoldsRows, IsBacked, PageMakes, gives_page}
use Rattle.mi_hall.specs.Seats.{rows_out, seat_view}
use Rattle.mi_hall.proofs.KnowledgeLemmas.{first_named}
use Rattle.mi_hall.proofs.NamedPages.{more_near, named_near, named_one}
use Rattle.mi_hall.proofs.PassLemmas.{pass_rows}

-- the state that a take found backs the seat
pub page_backs : (settings : Configuration) (v : Sight) (i : ℕ) (x : Slot) (f : Finds settings v i x) → v.live ≡ true → HoldsRows v → IsBacked f.core v
page_backs settings v i x f live holds =
    let fits = me settings f.core f.held v live f.backs in
    record {
      kept = f.held.kept;
      fits = fits;
      going = (f.backs.own.mine live).going;
      rows = λ n e. (let low = ((f.held.kept.sound.each v.actor v.mine.part fits.part).holds.shard n e).0 in
          sym (of_rows (shard_at f.core.shards n) (rows_out v.out n) (sym (read_shard f.core n f.held.kept.sound.sixteen low) ∙ f.backs.values (n + 1) _ (holds n e))));
    }

-- the page that it found is that of the state
pub found_page : (settings : Configuration) (v : Sight) (page : ℕ) (n : Node) (f : Finds settings v (page + 17) (OfPage n)) → node_at f.core.pages page ≡ Some n
found_page settings v page n f = of_page (node_at f.core.pages page) n (sym (read_page f.core page f.held.kept.sound.sixteen) ∙ f.value)

-- the give of a page, as the event that makes this page and this record of it, is one of a pass with this row
pub turn_does : (settings : Configuration) (m : Seated) (page : ℕ) (had n : Node) (to : Actor) (made : ActorRow) → HoldsLast m (page + 17) (OfPage had) → to ≡ row_actor m.0.mine.note.board.settings m.0.mine.part made
    → Doing settings m.0 (now m.0 (noting to (names_of had) n m.0.mine) (rest m.0.out)) (page + 17) (OfPage n) → Doing settings m.0 (turning m.0 made n) (page + 17) (OfPage n)
turn_does settings m page had n to made last is x =
    subst (λ names. Doing settings m.0 (gives_page m.0 (row_actor m.0.mine.note.board.settings m.0.mine.part made) n names (rest m.0.out)) (page + 17) (OfPage n)) (sym (ap names_out last.out))
    (subst (λ (q : Actor). Doing settings m.0 (gives_page m.0 q n (names_of had) (rest m.0.out)) (page + 17) (OfPage n)) is x)

module _ (settings : Configuration) (old m : Seated) (page : ℕ) (had : Node) (a : ℕ) (row : ActorRow) (rows : Option Rows) (told : Bool) (p : IsPass old a row rows told) (is : m ≡ took see_none old (page + 17) (OfPage had))
    (f : Finds settings old.0 (page + 17) (OfPage had)) where
  pub backed : IsBacked f.core old.0
  backed = page_backs settings old.0 (page + 17) (OfPage had) f p.live (pass_rows old a row rows told p)

  pub here : node_at f.core.pages page ≡ Some had
  here = found_page settings old.0 page had f

  pub sibling_here : HasSibling had
  sibling_here = has_sibling f.core f.held.kept page had here

  -- an event that makes this page and this record of its actor's is the give of a pass with this row
  pub turn_makes : (n : Node) (to : Actor) (made : ActorRow) (e : Event) → MakesPage settings old.0.actor old.0.mine page had n to (names_of had) e → to ≡ row_actor old.0.mine.note.board.settings old.0.mine.part made → HoldsLast m (page + 17) (OfPage had)
      → Doing settings m.0 (turning m.0 made n) (page + 17) (OfPage n)
  turn_makes n to made e makes tie last =
      turn_does settings m page had n to made last (subst (λ (z : Seated). to ≡ row_actor z.0.mine.note.board.settings z.0.mine.part made) (sym is) tie)
      (page_does settings m page had n to (names_of had) e last (subst (λ (z : Seated). MakesPage settings z.0.actor z.0.mine page had n to (names_of had) e) (sym is) makes))

  -- so is one that makes this page, and the record of this row, of any state that has the page and the record of the row in hand
  pub row_gives : (n : Node) (made : ActorRow) (e : Event) → KeepsRow row made
      → ((c : State) → Kept c → c.board.settings ≡ settings → Fits c old.0.actor old.0.mine → node_at c.pages page ≡ Some had
      → TurnsPage c old.0.actor (row_actor old.0.mine.note.board.settings old.0.mine.part row) e page n (row_actor old.0.mine.note.board.settings old.0.mine.part made))
      → HoldsLast m (page + 17) (OfPage had) → Doing settings m.0 (turning m.0 made n) (page + 17) (OfPage n)
  row_gives n made e keeps turns last =
      let to = row_actor old.0.mine.note.board.settings old.0.mine.part made in
      turn_makes n to made e (record {
        does = λ c k same fits there. subst (λ (q : Actor). TurnsPage c old.0.actor q e page n to) (sym p.row_is) (turns c k same fits there);
        named = λ c k fits there. names_stand c k.sound page had there;
        seen = keeps.seen ∙ sym (ap (λ (z : Actor). z.seen) p.row_is);
        claim = keeps.claim ∙ sym (ap (λ (z : Actor). z.claim) p.row_is);
        pin = ap (pin_of old.0.mine.note.board.settings) keeps.pin ∙ sym (ap (λ (z : Actor). z.pin) p.row_is);
        going = keeps.ended ∙ sym (ap (λ (z : Actor). z.ended) p.row_is);
      }) refl last

  -- where the page is noted, and goes back as it was
  pub noted_tie : (made : ActorRow) → made ≡ record row { page = page } → noted page old.0.mine.part ≡ row_actor old.0.mine.note.board.settings old.0.mine.part made
  noted_tie made is_made = ap (noted page) p.row_is ∙ ap (row_actor old.0.mine.note.board.settings old.0.mine.part) (sym is_made)

  pub noted_does : (made : ActorRow) → made ≡ record row { page = page } → (n : Node) → n ≡ had → HoldsLast m (page + 17) (OfPage had) → Doing settings m.0 (turning m.0 made n) (page + 17) (OfPage n)
  noted_does made is_made n same last = subst (λ (z : Node). Doing settings m.0 (turning m.0 made z) (page + 17) (OfPage z)) (sym same)
      (turn_makes had (noted page old.0.mine.part) made (visit page) (visit_makes settings old.0.actor old.0.mine page had) (noted_tie made is_made) last)

  module _ (new : Seated) (made : ActorRow) (n : Node) (gave : new ≡ (turning m.0 made n, rest m.1)) where
    -- what it knows then, by what it knew before the take
    turned : new ≡ (gives_page old.0 (row_actor old.0.mine.note.board.settings old.0.mine.part made) n (names_of had) old.0.out, old.1)
    turned = gave ∙ ap (λ (z : Seated). let y : Seated = (turning z.0 made n, rest z.1) in y) is

    -- the pages that the page in hand named are known
    pub turn_names : (q : ℕ) → IsTrue (is_named (names_of had) q) → IsTrue ((seat_view new.0).named q)
    turn_names q h = subst (λ (z : Seated). IsTrue ((seat_view z.0).named q)) (sym turned) (first_named (names_of had) old.0.mine.named q h)

    -- it is a pass again
    pub turned_pass : made.shard ≡ row.shard → IsPass new a made rows told
    turned_pass shard = subst (λ z. IsPass z a made rows told) (sym turned) (record {
      live = refl;
      actor_is = p.actor_is;
      row_is = refl;
      told_is = p.told_is;
      out = subst (λ k. HasOut k rows old.0.out old.1) (ap (λ (z : Actor). z.shard) p.row_is ∙ sym shard) p.out;
      unborn = p.unborn;
    })

    pub turned_near : (words : ℕ) → words ≡ settings.pages + 17 → AreNear words old.0.mine.named → AreNear words new.0.mine.named
    turned_near words many near = subst (λ (z : Seated). AreNear words z.0.mine.named) (sym turned)
        (more_near settings f.core f.held words many (names_of had) old.0.mine.named (names_stand f.core f.held.kept.sound page had here) near)

    -- and an event of the page alone, which leaves its actor with this row, makes of its view what it makes of any
    pub turn_tells : (e : Event) (rel : State → View → View → Type 0) → PageMakes e rel → Can f.core old.0.actor old.0.mine.part e → (to : Actor) → to ≡ row_actor old.0.mine.note.board.settings old.0.mine.part made
        → slice_get (after f.core old.0.actor old.0.mine.part e).actors old.0.actor ≡ Some to → node_at (after f.core old.0.actor old.0.mine.part e).pages to.page ≡ Some n
        → (after f.core old.0.actor old.0.mine.part e).shards ≡ f.core.shards → to.shard ≡ old.0.mine.part.shard → rel f.core (seat_view old.0) (seat_view new.0)
    turn_tells e rel law can to tie there left shards shard =
        let v : Sight = old.0 in
        let c : State = f.core in
        let t : State = after c v.actor v.mine.part e in
        let seat : Actor → Sight = λ q. gives_page v q n (names_of had) v.out in
        let held : HasRows t (seat to) = λ k h. backed.rows k (sym shard ∙ h) ∙ ap (λ l. (shard_at l k).rows) (sym shards) in
        let named : (x : Named) → IsOne x (names_of had) → IsNamed t.pages x = λ x one.
        named_later c t (event_leads_on e c f.held.kept.sound v.actor v.mine.part backed.fits.part can) x (names_stand c f.held.kept.sound page had here x one) in
        let is_new : new.0 ≡ seat to = ap (λ (z : Seated). z.0) turned ∙ ap seat (sym tie) in
        subst (λ z. rel c (seat_view v) (seat_view z)) (sym is_new) (law c v backed can to there n left (names_of had) named v.out held)

    -- the same of an event that makes this page and the record of this row
    pub row_tells : (e : Event) (rel : State → View → View → Type 0) → PageMakes e rel
        → TurnsPage f.core old.0.actor (row_actor old.0.mine.note.board.settings old.0.mine.part row) e page n (row_actor old.0.mine.note.board.settings old.0.mine.part made)
        → KeepsRow row made → made.page ≡ page → rel f.core (seat_view old.0) (seat_view new.0)
    row_tells e rel law turns keeps at =
        let i = old.0.actor in
        let to = row_actor old.0.mine.note.board.settings old.0.mine.part made in
        let y = subst (λ (q : Actor). TurnsPage f.core i q e page n to) (sym p.row_is) turns in
        turn_tells e rel law y.0 to refl
        (ap (λ (t : State). slice_get t.actors i) y.1 ∙ set_there f.core.actors i to old.0.mine.part backed.fits.part)
        (ap (λ (t : State). node_at t.pages to.page) y.1 ∙ ap (node_at (set f.core.pages page (Some n))) at ∙ get_or-set_same f.core.pages page (Some n) None (within f.core.pages page had here))
        (ap (λ (t : State). t.shards) y.1) (keeps.shard ∙ sym (ap (λ (z : Actor). z.shard) p.row_is))

    -- and a visit, after which the page is as it was
    pub noted_tells : (rel : State → View → View → Type 0) → PageMakes (visit page) rel → made ≡ record row { page = page } → n ≡ had → rel f.core (seat_view old.0) (seat_view new.0)
    noted_tells rel law is_made same = turn_tells (visit page) rel law (had, here) (noted page old.0.mine.part) (noted_tie made is_made)
        (set_there f.core.actors old.0.actor (noted page old.0.mine.part) old.0.mine.part backed.fits.part) (here ∙ ap Some (sym same)) refl refl

-- a page that a pass shows as named is one that its seat was told of
pub named_here : (old : Seated) (table : TableId) (was : PassState) → record { sight = old.0; table = table } ≡ was → (page : ℕ) → IsTrue ((seat_view was.sight).named page) → (y : Named) × (y.page ≡ page) × IsOne y old.0.mine.named
named_here old table was same page named = named_one old.0.mine.named page (subst (λ (z : PassState). IsTrue ((seat_view z.sight).named page)) (sym same) named)

-- and it has its word in the table of the pass
pub named_before : (old : Seated) (table its : TableId) (was : PassState) (pages : ℕ) → its.words ≡ pages + 17 → AreNear table.words old.0.mine.named → record { sight = old.0; table = table } ≡ was → was.table ≡ its → (page : ℕ) → IsTrue ((seat_view was.sight).named page)
    → (table ≡ its) × (page < pages)
named_before old table its was pages many near same fits page named =
    let one : table ≡ its = ap (λ (z : PassState). z.table) same ∙ fits in
    (one, named_near table.words pages old.0.mine.named near (ap (λ (t : TableId). t.words) one ∙ many) page (subst (λ (z : PassState). IsTrue ((seat_view z.sight).named page)) (sym same) named))
