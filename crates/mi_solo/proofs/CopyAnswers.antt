-- The event that each copy is, and each taking back of one, by its answer, and what the trait tells of it.
use Rattle.std.proofs.Common.{◌≡◌, ◌∙◌, ℕ, List, ◌+◌, ◌-◌, ◌<◌, ◌≤◌, Bool, cond, true, length, ap, refl, subst, sym}
use Rattle.std.specs.Prelude.{slice_get}
use Rattle.std.proofs.lemmas.Option.{get_or_from_slice_get}
use Rattle.mi_core.specs.Actors.{made_by}
use Rattle.mi_core.specs.Effects.{drop_entry, put_entry, trim_leaf}
use Rattle.mi_core.specs.Events.{Can, after, copied_of, copied_to, first_actor, with_split_at}
use Rattle.mi_core.specs.Events.Event.{copy_in, uncopy, visit}
use Rattle.mi_core.specs.Kept.{Kept}
use Rattle.mi_core.specs.State.{State, put_actor, put_page}
use Rattle.mi_base.specs.Configuration.{Configuration}
use Rattle.mi_base.specs.History.{Entered}
use Rattle.mi_entries.specs.Actors.{Actor}
use Rattle.mi_key.specs.declared.entries.Entry.{Entry}
use Rattle.mi_page.specs.Entries.{without_dead}
use Rattle.mi_page.specs.Nodes.{Node, item_count}
use Rattle.mi_world.specs.declared.answers.Put.{Put}
use Rattle.mi_world.specs.declared.answers.Put.TheVariants.{Done, Down, PageFull, Right}
use Rattle.mi_world.specs.Splits.{CopiesIn, IsGathered, Uncopies, last_copy, next_copy}
use Rattle.mi_solo.specs.declared.cores.Core.{Core}
use Rattle.mi_solo.specs.declared.rows.ActorRow.{ActorRow}
use Rattle.mi_solo.specs.LeafRows.{CopiesRow, PutsCopy, TakesBack, UncopiesRow}
use Rattle.mi_solo.specs.OnPages.{OnPage, record_of}
use Rattle.mi_solo.specs.Seeking.{EndsAfter, PointsDown, PointsRight}
use Rattle.mi_solo.specs.States.{Does, IsGoing, actor_in, actor_of, node_in, state_of, view_in}
use Rattle.mi_solo.specs.Viewing.{shown_to}
use Rattle.mi_solo.proofs.CopyEvents.{can_copy, can_uncopy, copies_done, copies_down, copies_full, copies_right, uncopies_done, uncopies_down, uncopies_right}
use Rattle.mi_solo.proofs.CoreLemmas.{there}
use Rattle.mi_solo.proofs.InsertSection.{trims_leaf}
use Rattle.mi_solo.proofs.PageTurns.{page_does, visit_is}
use Rattle.mi_solo.proofs.RouteLaws.{full_kept}
use Rattle.mi_solo.proofs.SoloLemmas.{Answered, answered, now}

-- with the page and the record of this row, what the events make
module _ (s : State) (a page : ℕ) (n new : Node) (c : Configuration) (own : List Entered) (row made : ActorRow) (e : Entry) where
  abbrev R : Actor
  R = record_of c own row

  copy_is : (place : ℕ) → place ≡ copied_of (record_of c own row).split → PutsCopy page place e n row new made
      → after s a (record_of c own row) (copy_in page n e) ≡ put_actor a (record_of c own made) (put_page page new s)
  copy_is place at x =
      let tie : with_split_at (copied_to (copied_of R.split + 1) R.split) page R ≡ record_of c own made =
      ap (λ m. with_split_at (copied_to (m + 1) R.split) page R) (sym at) ∙ ap (λ o. with_split_at o page R) (sym x.count) ∙ ap (record_of c own) (sym x.row_is) in
      ap (λ q. put_actor a q (put_page page (put_entry row.floor.updates e n) s)) tie ∙ ap (λ m. put_actor a (record_of c own made) (put_page page m s)) (sym x.put_in)

  uncopy_is : (told : Bool) → TakesBack page told e n row new made
      → after s a (record_of c own row) (uncopy page n e told) ≡ put_actor a (record_of c own made) (put_page page new s)
  uncopy_is told x =
      let tie : record (with_split_at (copied_to (copied_of R.split - 1) R.split) page R) { undone = true; early = cond told R.early true } ≡ record_of c own made =
      ap (λ o. let y : Actor = record (with_split_at o page R) { undone = true; early = cond told R.early true } in y) (sym x.count) ∙ ap (record_of c own) (sym x.row_is) in
      ap (λ q. put_actor a q (put_page page (drop_entry e.key n) s)) tie ∙ ap (λ m. put_actor a (record_of c own made) (put_page page m s)) (sym x.left)

module _ (c d : Core) (a : ℕ) (k : Kept (state_of c)) (g : IsGoing c a) (page : ℕ) where
  abbrev r : Actor
  r = actor_in (state_of c) a

  -- the row's record is its actor's
  its : {makes : Node → ActorRow → Node → ActorRow → Type 0} (x : OnPage (state_of c) a page makes (state_of d)) → actor_in (state_of c) a ≡ actor_of c.board.settings c.board.log a x.row
  its x = get_or_from_slice_get (state_of c).actors a _ first_actor x.row_is

  noted_page : {makes : Node → ActorRow → Node → ActorRow → Type 0} (x : OnPage (state_of c) a page makes (state_of d)) → x.new ≡ x.was → x.made ≡ record x.row { page = page } → Does (state_of c) a (visit page) (state_of d)
  noted_page x same is = page_does (state_of c) a page (state_of d) x (visit page) (visit_is (state_of c) a page x.was x.new x.there c.board.settings (made_by a c.board.log) x.row x.made same is)

  pub answer_copy : IsGathered (view_in (state_of c) a) → (node_in (state_of c) page).low ≤ next_copy (view_in (state_of c) a) → (answer : Put)
      → OnPage (state_of c) a page (CopiesRow c.board.settings page answer) (state_of d) → Answered c d a (λ v w. CopiesIn v w page answer)
  answer_copy gathered low (Down p) x = let y = noted_page x x.does.1.same x.does.1.row_is in
      answered c d a k g y tt (copies_down page x.was p (state_of c) k a r _ (there c a g.known) g.going y.can (now c d a k g y) x.there
      (subst (λ (q : Actor). PointsDown x.was 0 (next_copy (shown_to (state_of c) a q)) p) (sym (its x)) x.does.0))
  answer_copy gathered low (Right p) x = let y = noted_page x x.does.1.same x.does.1.row_is in
      answered c d a k g y tt (copies_right page x.was p (state_of c) k a r _ (there c a g.known) g.going y.can (now c d a k g y) x.there
      (subst (λ (q : Actor). PointsRight x.was 0 (next_copy (shown_to (state_of c) a q)) p) (sym (its x)) x.does.0))
  answer_copy gathered low PageFull x =
      let full = x.does.1 in
      let trim = trims_leaf x.row.floor.updates x.was x.does.0.level in
      let many : item_count (trim_leaf x.row.floor.updates x.was) ≡ 32 = ap item_count trim ∙ full.many in
      let same : x.new ≡ x.was = full.trimmed ∙ sym trim ∙ full_kept (state_of c) k page x.was x.there x.row.floor.updates many in
      let y = noted_page x same full.row_is in
      answered c d a k g y tt (copies_full page x.was (state_of c) k a r _ (there c a g.known) g.going y.can (now c d a k g y) x.there
      (subst (λ (q : Actor). EndsAfter x.was 0 (next_copy (shown_to (state_of c) a q))) (sym (its x)) x.does.0)
      (subst (λ (q : Actor). item_count (trim_leaf q.floor.updates x.was) ≡ 32) (sym (its x)) many))
  answer_copy gathered low Done x =
      let e : Entry = x.does.1 in
      let copy = x.does.2 in
      let puts = x.does.3 in
      let on = ap (λ (q : Actor). q.split) (its x) ∙ copy.split in
      let at = ap (slice_get copy.work.gathered) (sym (ap copied_of copy.split)) ∙ copy.there in
      let can = subst (λ (z : Entry). Can (state_of c) a r (copy_in page x.was z)) (sym copy.is)
      (can_copy (state_of c) k a r (there c a g.known) page x.was x.there copy.work on copy.old at gathered.whole low
      (subst (λ (q : Actor). EndsAfter x.was 0 (next_copy (shown_to (state_of c) a q))) (sym (its x)) x.does.0)
      (subst (λ (q : Actor). length (without_dead q.floor.updates x.was.entries) < 32) (sym (its x)) puts.space)) in
      let y = page_does (state_of c) a page (state_of d) x (copy_in page x.was e) (
        subst (λ (q : Actor). Can (state_of c) a q (copy_in page x.was e)) (its x) can,
        copy_is (state_of c) a page x.was x.new c.board.settings (made_by a c.board.log) x.row x.made e _ refl puts,
      ) in
      answered c d a k g y tt (copies_done page x.was e (state_of c) k a r _ (there c a g.known) g.going y.can (now c d a k g y))

  pub answer_uncopy : 0 < (view_in (state_of c) a).copied → (node_in (state_of c) page).low ≤ last_copy (view_in (state_of c) a) → (answer : Put)
      → OnPage (state_of c) a page (UncopiesRow c.board.settings page (view_in (state_of c) a).told answer) (state_of d) → Answered c d a (λ v w. Uncopies v w page answer)
  answer_uncopy some low (Down p) x = let y = noted_page x x.does.1.same x.does.1.row_is in
      answered c d a k g y tt (uncopies_down page x.was p (state_of c) k a r _ (there c a g.known) g.going y.can (now c d a k g y) x.there
      (subst (λ (q : Actor). PointsDown x.was 0 (last_copy (shown_to (state_of c) a q)) p) (sym (its x)) x.does.0))
  answer_uncopy some low (Right p) x = let y = noted_page x x.does.1.same x.does.1.row_is in
      answered c d a k g y tt (uncopies_right page x.was p (state_of c) k a r _ (there c a g.known) g.going y.can (now c d a k g y) x.there
      (subst (λ (q : Actor). PointsRight x.was 0 (last_copy (shown_to (state_of c) a q)) p) (sym (its x)) x.does.0))
  answer_uncopy some low PageFull x = absurd x.does
  answer_uncopy some low Done x =
      let e : Entry = x.does.1 in
      let copy = x.does.2 in
      let told : Bool = (view_in (state_of c) a).told in
      let on = ap (λ (q : Actor). q.split) (its x) ∙ copy.split in
      let at = ap (λ m. slice_get copy.work.gathered (m - 1)) (sym (ap copied_of copy.split)) ∙ copy.there in
      let more : 0 < copy.work.copied = subst (λ m. 0 < m) (ap copied_of on) some in
      let can = subst (λ (z : Entry). Can (state_of c) a r (uncopy page x.was z told)) (sym copy.is)
      (can_uncopy (state_of c) k a r (there c a g.known) page x.was x.there copy.work on copy.old at more low
      (subst (λ (q : Actor). EndsAfter x.was 0 (last_copy (shown_to (state_of c) a q))) (sym (its x)) x.does.0) told refl) in
      let y = page_does (state_of c) a page (state_of d) x (uncopy page x.was e told) (
        subst (λ (q : Actor). Can (state_of c) a q (uncopy page x.was e told)) (its x) can,
        uncopy_is (state_of c) a page x.was x.new c.board.settings (made_by a c.board.log) x.row x.made e told x.does.3,
      ) in
      answered c d a k g y tt (uncopies_done page x.was e told (state_of c) k a r _ (there c a g.known) g.going y.can (now c d a k g y) refl)
