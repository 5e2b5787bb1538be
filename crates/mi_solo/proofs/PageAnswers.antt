-- The event that each section of a page is, by its answer, and what the trait tells of it.
use Rattle.std.proofs.Common.{◌≡◌, ◌≤◌, ◌^◌, ◌<◌, ℕ, ℤ, List, length, get_or, IsTrue, refl, sym, ap, ◌∙◌, subst, Option, Some, None, is_some}
use Rattle.std.proofs.lemmas.Bool.{false≢true}
use Rattle.std.specs.Arc.{arc_value}
use Rattle.std.specs.Prelude.{IsSome}
use Rattle.mi_base.specs.History.{updates_of}
use Rattle.mi_board.specs.Boards.{cells_in}
use Rattle.mi_core.specs.Actors.{made_by}
use Rattle.mi_core.specs.Events.{first_actor}
use Rattle.mi_core.specs.Events.Event.{trim, visit}
use Rattle.mi_entries.specs.Actors.{Actor}
use Rattle.mi_entries.specs.Records.{home}
use Rattle.mi_core.specs.Kept.{Kept}
use Rattle.mi_core.specs.Pages.{node_or_fresh}
use Rattle.mi_core.specs.State.{State, node_at}
use Rattle.mi_key.specs.declared.entries.Entry.{Entry}
use Rattle.mi_key.specs.declared.ranges.Interval.{Interval}
use Rattle.mi_page.specs.Nodes.{Node}
use Rattle.mi_world.specs.declared.answers.Commit.{Commit}
use Rattle.mi_world.specs.declared.answers.Commit.TheVariants as commit
use Rattle.mi_world.specs.declared.answers.Visit.{Visit}
use Rattle.mi_world.specs.declared.answers.Visit.TheVariants.{Down, Read, Right}
use Rattle.mi_world.specs.Pages.{CommitsDelete, CommitsInsert, IsInLeaf, MayInsert, MaySeek, Trims, Visits, insert_key, next_number, offered_by, pinned}
use Rattle.mi_world.specs.View.{View}
use Rattle.mi_solo.specs.declared.cores.Core.{Core}
use Rattle.mi_solo.specs.declared.rows.ActorRow.{ActorRow}
use Rattle.mi_solo.specs.declared.rows.PinRow.{PinRow}
use Rattle.mi_solo.specs.Deleting as deleting
use Rattle.mi_solo.specs.CommitRows.{InsertsRow, key_in_row, next_birth}
use Rattle.mi_solo.specs.Inserting as inserting
use Rattle.mi_solo.specs.OnHelds.{OnHeld}
use Rattle.mi_solo.specs.OnPages.{OnPage}
use Rattle.mi_solo.specs.PageRows.{TrimsRow}
use Rattle.mi_solo.specs.Sections as made
use Rattle.mi_solo.specs.Seeking.{EndsAfter, PointsDown, PointsRight, TrimsTo, offered_of}
use Rattle.mi_solo.specs.Viewing.{shown_to}
use Rattle.mi_solo.specs.States.{Does, IsGoing, actor_in, actor_of, is_linked, node_in, state_of, view_in}
use Rattle.mi_solo.specs.Solos.{view_of}
use Rattle.mi_solo.proofs.CommitEvents.{deletes_down, deletes_full, deletes_right, inserts_crowded, inserts_down, inserts_full, inserts_page_full, inserts_right}
use Rattle.mi_solo.proofs.CoreLemmas.{catalog_is, pin_is, some_of, there}
use Rattle.mi_solo.proofs.EnterEvents.{deletes_done, inserts_done}
use Rattle.mi_solo.proofs.HandLemmas.{cells_shown, pin_shown}
use Rattle.std.proofs.lemmas.Option.{get_or_from_slice_get}
use Rattle.mi_solo.proofs.InsertTurns.{held_does, insert_event, insert_is}
use Rattle.mi_solo.proofs.PageTurns.{page_does, trim_is, visit_is}
use Rattle.mi_solo.proofs.ReaderLemmas.{offers_page, pin_counts}
use Rattle.mi_solo.proofs.SoloLemmas.{Answered, after_view, answered, now, solo_of}
use Rattle.mi_solo.proofs.SweepEvents.{trims_on}
use Rattle.mi_solo.proofs.VisitEvents.{visits_page}

linked_is : (o : Option Node) → IsTrue (is_some o) → o ≡ Some (node_or_fresh o)
linked_is None h = absurd (false≢true h)
linked_is (Some n) h = refl

-- a page that is linked is there
pub page_is : (s : State) (page : ℕ) → IsTrue (is_linked s page) → node_at s.pages page ≡ Some (node_in s page)
page_is s page h = linked_is (node_at s.pages page) h

-- what an actor's row keeps of a pin is the catalog of the pinned log
pub pinned_is : (c : Core) (a : ℕ) → Kept (state_of c) → (known : a < length c.actors.items) → (row : ActorRow) → row ≡ get_or c.actors.items a row → IsSome (view_of (solo_of c a)).pin → (p : PinRow) → row.pin ≡ Some p
    → arc_value p.cells ≡ cells_in c.board.settings (pinned (view_of (solo_of c a)))
pinned_is c a k known row at some p e =
    let s = state_of c in
    let its = pin_is c a known row at (sym (pin_shown s a (actor_in s a)) ∙ some) p e in
    catalog_is s.board.settings (arc_value p.cells) its.0
    ∙ ap (λ ls. record (cells_in s.board.settings (pinned (view_of (solo_of c a)))) { leaves = ls }) (cells_shown s k a (actor_in s a) (there c a known) (record { at = p.at; cells = (arc_value p.cells).leaves }) its.1)

module _ (c d : Core) (a : ℕ) (k : Kept (state_of c)) (g : IsGoing c a) (page : ℕ) (linked : IsTrue (is_linked (state_of c) page)) where
  abbrev n : Node
  n = node_in (state_of c) page

  here : node_at (state_of c).pages page ≡ Some (node_in (state_of c) page)
  here = page_is (state_of c) page linked

  pub answer_visit : (range : Interval) (r : Visit) → made.Visits (state_of c) a page range r (state_of d) → Answered c d a (λ v w. Visits v w page range r)
  answer_visit range r x = answered c d a k g x.does tt ((visits_page page n range r) (state_of c) k a (actor_in (state_of c) a) _ (there c a g.known) g.going x.does.can (now c d a k g x.does) here x.answer)

  -- what was offered is what the trait tells
  pub visit_offers : (range : Interval) (r : Visit) → made.Visits (state_of c) a page range r (state_of d) → IsSome (view_in (state_of c) a).pin → IsInLeaf (view_in (state_of c) a) range
      → offered_of (node_in (state_of c) page) range (made.updates_pinned (actor_in (state_of c) a).pin) r ≡ offered_by (view_in (state_of c) a) (view_of (solo_of d a)) page range r
  visit_offers range r x some inside =
      let s = state_of c in
      let pin = some_of (actor_in s a).pin (sym (pin_shown s a (actor_in s a)) ∙ some) in
      ap (λ n. offered_of (node_in s page) range n r) (ap made.updates_pinned pin.1 ∙ sym (pin_counts s k a (actor_in s a) (there c a g.known) pin.0 pin.1))
      ∙ subst (λ (t : State). offered_of (node_in s page) range (length (updates_of (pinned (view_in s a)))) r ≡ offered_by (view_in s a) (view_in t a) page range r) (sym x.does.is)
      (offers_page page (node_in s page) range r (state_of c) k a (actor_in (state_of c) a) _ (there c a g.known) g.going x.does.can (now c d a k g x.does) here some inside x.answer)

  -- a trim of a leaf page is its event
  pub trims_are : (node_in (state_of c) page).level ≡ 0 → (r : Visit) → OnPage (state_of c) a page (TrimsRow page r) (state_of d) → made.Trims (state_of c) a page r (state_of d)
  trims_are leaf (Down p) x = absurd x.does
  trims_are leaf (Right p) x = absurd x.does
  trims_are leaf (Read next) x =
      let s = state_of c in
      let same : node_in s page ≡ x.was = ap node_or_fresh x.there in
      subst (λ m. Does s a (trim page m) (state_of d) × TrimsTo m next) (sym same) (
        page_does s a page (state_of d) x (trim page x.was)
            (trim_is s a page x.was x.new x.there s.board.settings (made_by a s.board.log) x.row x.made (ap (λ (m : Node). m.level) (sym same) ∙ leaf) (Read next) x.does),
        x.does.0,
      )

  pub answer_trim : (r : Visit) → made.Trims (state_of c) a page r (state_of d) → Answered c d a (λ v w. Trims v w page r)
  answer_trim (Down p) x = absurd x
  answer_trim (Right p) x = absurd x
  answer_trim (Read next) x = answered c d a k g x.0 tt ((trims_on page n next) (state_of c) k a (actor_in (state_of c) a) _ (there c a g.known) g.going x.0.can (now c d a k g x.0) x.1)

  module _ (op id : ℕ) where
    pub answer_delete : (r : Commit) → deleting.CommitsDelete (state_of c) a page op id r (state_of d) → Answered c d a (λ v w. CommitsDelete v w page op id r)
    answer_delete (commit.Down p) x = answered c d a k g x.0 tt ((deletes_down page op id n p) (state_of c) k a (actor_in (state_of c) a) _ (there c a g.known) g.going x.0.can (now c d a k g x.0) here x.1)
    answer_delete (commit.Right p) x = answered c d a k g x.0 tt ((deletes_right page op id n p) (state_of c) k a (actor_in (state_of c) a) _ (there c a g.known) g.going x.0.can (now c d a k g x.0) here x.1)
    answer_delete (commit.Full limit) x =
        answered c d a k g x.1.0 tt (subst (λ l. CommitsDelete (view_of (solo_of c a)) (after_view c d a k g x.1.0) page op id (commit.Full l)) (sym x.1.1)
        ((deletes_full page op id n) (state_of c) k a (actor_in (state_of c) a) _ (there c a g.known) g.going x.1.0.can (now c d a k g x.1.0) here x.0))
    answer_delete commit.Crowded x = absurd x.1
    answer_delete commit.PageFull x = absurd x.1
    answer_delete (commit.Done number) x =
        answered c d a k g x.1.0 tt (subst (λ b. CommitsDelete (view_of (solo_of c a)) (after_view c d a k g x.1.0) page op id (commit.Done b)) (sym x.1.1)
        ((deletes_done op id page n _ _) (state_of c) k a (actor_in (state_of c) a) _ (there c a g.known) g.going x.1.0.can (now c d a k g x.1.0)))

-- the commit of an insert
module _ (c d : Core) (a : ℕ) (k : Kept (state_of c)) (g : IsGoing c a) (page op id : ℕ) (vector : List ℤ) (dists : List ℕ) (small : id < 2 ^ 40) (may : MayInsert (view_in (state_of c) a) id vector dists) (seeks : MaySeek (view_in (state_of c) a) page dists id) where
  abbrev r : Actor
  r = actor_in (state_of c) a

  -- what it is, by what was in hand
  module _ (answer : Commit) (x : OnHeld (state_of c) a page (home id) (λ b n rows row board new kept m. InsertsRow a page op id (key_in_row b.settings row dists id (next_birth b)) vector dists answer b n rows row board new kept m) (state_of d)) (leaf : x.was.level ≡ 0) where
    its : actor_in (state_of c) a ≡ actor_of c.board.settings c.board.log a x.row
    its = get_or_from_slice_get (state_of c).actors a _ first_actor x.row_is

    key_is : key_in_row c.board.settings x.row dists id (next_birth c.board) ≡ insert_key (view_in (state_of c) a) dists id (next_number (view_in (state_of c) a))
    key_is = ap (λ (q : Actor). insert_key (shown_to (state_of c) a q) dists id (next_number (shown_to (state_of c) a q))) (sym its)

    low : x.was.low ≤ key_in_row c.board.settings x.row dists id (next_birth c.board)
    low = subst (λ (m : ℕ). x.was.low ≤ m) (sym key_is) (subst (λ (n : Node). n.level ≡ 0 → n.low ≤ insert_key (view_in (state_of c) a) dists id (next_number (view_in (state_of c) a))) (ap node_or_fresh x.there) seeks.at_leaf leaf)

    inserted : Does (state_of c) a (insert_event (state_of c) k a page id x.was x.row x.row_is x.there x.board x.new x.kept x.made op vector dists small (subst (λ (q : Actor). MayInsert (shown_to (state_of c) a q) id vector dists) its may) leaf low answer x.does) (state_of d)
    inserted = held_does (state_of c) a page (home id) (state_of d) x _ (insert_is (state_of c) k a page id x.was x.row x.row_is x.there x.board x.new x.kept x.made op vector dists small (subst (λ (q : Actor). MayInsert (shown_to (state_of c) a q) id vector dists) its may) leaf low answer x.does)

  pub answer_insert : (r : Commit) → inserting.CommitsInsert (state_of c) a page op id vector dists r (state_of d) → Answered c d a (λ v w. CommitsInsert v w page op id vector dists r)
  answer_insert (commit.Down p) x =
      let same : r ≡ actor_of c.board.settings c.board.log a x.row = get_or_from_slice_get (state_of c).actors a _ first_actor x.row_is in
      let y = page_does (state_of c) a page (state_of d) x (visit page) (visit_is (state_of c) a page x.was x.new x.there c.board.settings (made_by a c.board.log) x.row x.made x.does.1.same x.does.1.row_is) in
      answered c d a k g y tt (inserts_down page op id x.was vector dists p (state_of c) k a r _ (there c a g.known) g.going y.can (now c d a k g y) x.there
      (subst (λ (q : Actor). PointsDown x.was 0 (insert_key (shown_to (state_of c) a q) dists id 0) p) (sym same) x.does.0))
  answer_insert (commit.Right p) x = let y = inserted (commit.Right p) x x.does.0.level in
      answered c d a k g y tt (inserts_right page op id x.was vector dists p (state_of c) k a r _ (there c a g.known) g.going y.can (now c d a k g y) x.there (subst (λ m. PointsRight x.was 0 m p) (key_is (commit.Right p) x x.does.0.level) x.does.0))
  answer_insert (commit.Full limit) x = let y = inserted (commit.Full limit) x x.does.0.level in
      answered c d a k g y tt (subst (λ l. CommitsInsert (view_of (solo_of c a)) (after_view c d a k g y) page op id vector dists (commit.Full l)) (sym x.does.1.0)
      (inserts_full page op id x.was vector dists (state_of c) k a r _ (there c a g.known) g.going y.can (now c d a k g y) x.there (subst (EndsAfter x.was 0) (key_is (commit.Full limit) x x.does.0.level) x.does.0)))
  answer_insert commit.Crowded x = let y = inserted commit.Crowded x x.does.0.level in
      answered c d a k g y tt (inserts_crowded page op id x.was vector dists (state_of c) k a r _ (there c a g.known) g.going y.can (now c d a k g y) x.there may (subst (EndsAfter x.was 0) (key_is commit.Crowded x x.does.0.level) x.does.0) x.does.1.0)
  answer_insert commit.PageFull x = let y = inserted commit.PageFull x x.does.0.level in
      answered c d a k g y tt (inserts_page_full page op id x.was vector dists (state_of c) k a r _ (there c a g.known) g.going y.can (now c d a k g y) x.there may (subst (EndsAfter x.was 0) (key_is commit.PageFull x x.does.0.level) x.does.0) x.does.1.0 x.does.1.1)
  answer_insert (commit.Done number) x =
      let e : Entry = x.does.1.3 in
      let one = x.does.1.4 in
      let y = inserted (commit.Done number) x x.does.0.level in
      let V : View = view_of (solo_of c a) in
      let W : View = after_view c d a k g y in
      answered c d a k g y tt (subst (λ b. CommitsInsert V W page op id vector dists (commit.Done b)) (sym x.does.1.5)
      (subst (λ ds. CommitsInsert V W page op id vector ds (commit.Done e.birth)) one.dists_are
      (subst (λ xs. CommitsInsert V W page op id xs e.dists.items (commit.Done e.birth)) one.vector_is
      (inserts_done op id page x.was _ e (state_of c) k a r _ (there c a g.known) g.going y.can (now c d a k g y)))))
