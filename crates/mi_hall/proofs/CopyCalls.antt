-- Copies of a pass, made and taken back.
use Rattle.std.proofs.Common.{◌≡◌, ℕ, ◌+◌, ◌-◌, ◌≤◌, ◌<◌, length, Bool, true, false, cond, IsTrue, refl, sym, ap, ◌∙◌, subst, arith, Option, Some, None, get_or-set_same}
use Rattle.std.specs.Prelude.{is_some, slice_get, slice_index}
use Rattle.std.specs.List.{AllByRecursion}
use Rattle.std.proofs.lemmas.Bool.{leb-true}
use Rattle.std.proofs.lemmas.Option.{same_Some}
use Rattle.atomic_table.specs.Seated.{TableId}
use Rattle.atomic_table.specs.Table.{rest}
use Rattle.mi_base.specs.Configuration.{Configuration}
use Rattle.mi_core.specs.Effects.{drop_entry, put_entry, trim_leaf}
use Rattle.mi_core.specs.Events.{copied_of, copied_to, with_split_at}
use Rattle.mi_core.specs.Events.Event.{copy_in, uncopy, visit}
use Rattle.mi_core.specs.State.{State, node_at}
use Rattle.mi_core.proofs.ActorLemmas.{set_there}
use Rattle.mi_core.proofs.PageLemmas.{within}
use Rattle.mi_entries.specs.Actors.{Actor, SplitWork}
use Rattle.mi_entries.specs.Entries.{grid}
use Rattle.mi_entries.specs.Marks.{cell_end}
use Rattle.mi_entries.specs.Records.{Rows}
use Rattle.mi_entries.specs.Splits.{copy_in_child}
use Rattle.mi_key.specs.declared.entries.Entry.{Entry}
use Rattle.mi_latch.specs.declared.slots.Slot.TheVariants.{OfPage}
use Rattle.mi_latch.specs.Naming.{names_of}
use Rattle.mi_latch.specs.PageSteps.{MakesPage}
use Rattle.mi_latch.specs.Takes.{Finds, see_none, took}
use Rattle.mi_latch.specs.Views.{Doing, HoldsLast, Seated, Sight}
use Rattle.mi_latch.proofs.PageMakes.{copy_makes, uncopy_makes}
use Rattle.mi_page.specs.Entries.{has_entry, without_dead}
use Rattle.mi_page.specs.Keys.{IsInside}
use Rattle.mi_page.specs.Nodes.{Node, item_count}
use Rattle.mi_solo.specs.declared.rows.ActorRow.{ActorRow}
use Rattle.mi_solo.specs.declared.rows.SplitRow.{SplitRow}
use Rattle.mi_solo.specs.Seeking.{EndsAfter, IsCopied, PointsDown, PointsRight}
use Rattle.mi_solo.specs.States.{split_of}
use Rattle.mi_solo.specs.Viewing.{copy_keys, is_whole, shown_to}
use Rattle.mi_solo.specs.WorkRows.{work_of}
use Rattle.mi_solo.proofs.CopyEvents.{copy_absent, copy_there, last_is, next_is}
use Rattle.mi_solo.proofs.DescentLemmas.{shows_page}
use Rattle.mi_solo.proofs.InsertSection.{trims_leaf}
use Rattle.mi_solo.proofs.KeyLemmas.{gathered_copied, gathered_few, split_above}
use Rattle.mi_solo.proofs.MarkLemmas.{some_at}
use Rattle.mi_solo.proofs.RouteLaws.{full_kept}
use Rattle.mi_world.specs.declared.answers.Put.{Put}
use Rattle.mi_world.specs.declared.answers.Put.TheVariants as put
use Rattle.mi_world.specs.Splits.{CopiesIn, IsGathered, Uncopies, last_copy, next_copy}
use Rattle.mi_world.specs.View.{View}
use Rattle.mi_hall.specs.Knowledge.{is_named}
use Rattle.mi_solo.specs.LeafRows.{CopiesRow, IsFull, IsRowCopy, IsSplitting, PutsCopy, TakesBack, UncopiesRow, copied_by, copy_key, gathered_by, gathered_of}
use Rattle.mi_solo.specs.PageRows.{OnlyNotes}
use Rattle.mi_hall.specs.Passes.{IsPass, PassState, row_actor, turning}
use Rattle.mi_hall.specs.Places.{IsBacked, PageMakes}
use Rattle.mi_hall.specs.Seats.{seat_view}
use Rattle.mi_solo.proofs.CopyRows.{keys_many, row_key, split_there}
use Rattle.mi_hall.proofs.NamedPages.{names_after, names_child}
use Rattle.mi_hall.proofs.PageSection.{backed, here, noted_does, noted_tells, turn_makes, turn_names, turn_tells}
use Rattle.mi_hall.proofs.SeatConditions.{low_seated}
use Rattle.mi_hall.proofs.SplitPlaces.{copies_down_seated, copies_full_seated, copies_right_seated, copies_seated, uncopies_down_seated, uncopies_right_seated, uncopies_seated}

module _ (settings : Configuration) (old m : Seated) (page : ℕ) (had : Node) (a : ℕ) (row : ActorRow) (rows : Option Rows) (told : Bool) (p : IsPass old a row rows told) (is : m ≡ took see_none old (page + 17) (OfPage had))
    (f : Finds settings old.0 (page + 17) (OfPage had)) (table : TableId) (was : PassState) (same : record { sight = old.0; table = table } ≡ was)
    (splitting : (seat_view was.sight).splitting ≡ true) (shown : IsTrue ((seat_view was.sight).named page)) where
  abbrev r : Actor
  r = old.0.mine.part

  sight_is : was.sight ≡ old.0
  sight_is = ap (λ (z : PassState). z.sight) (sym same)

  back : IsBacked f.core old.0
  back = backed settings old m page had a row rows told p is f

  at_page : node_at f.core.pages page ≡ Some had
  at_page = here settings old m page had a row rows told p is f

  known : IsTrue ((seat_view old.0).named page)
  known = subst (λ (v : Sight). IsTrue ((seat_view v).named page)) sight_is shown

  -- its record splits what the row does
  row_split : old.0.mine.part.split ≡ split_of row.split
  row_split = ap (λ (z : Actor). z.split) p.row_is

  has : (w : SplitRow) × (row.split ≡ Some w)
  has = split_there row.split (subst (λ o. is_some o ≡ true) row_split (subst (λ (v : Sight). (seat_view v).splitting ≡ true) sight_is splitting))

  abbrev work : SplitWork
  work = work_of has.0

  row_work : split_of row.split ≡ Some work
  row_work = ap split_of has.1

  splits : old.0.mine.part.split ≡ Some work
  splits = row_split ∙ row_work

  pub copy_works : IsSplitting settings row
  copy_works = record {
    work = has.0;
    is = has.1;
    above = subst (λ (s : Configuration). length has.0.leaf < s.levels) f.held.same (split_above f.core f.held.kept old.0.actor r back.fits.part work splits);
    each = subst (λ (s : Configuration). AllByRecursion (IsCopied s has.0.leaf) has.0.gathered.items) f.held.same (gathered_copied f.core f.held.kept old.0.actor r back.fits.part work splits);
    few = gathered_few f.core f.held.kept old.0.actor r back.fits.part work splits;
  }

  -- the state's settings are the table's, and the noted board's too
  noted_settings : settings ≡ old.0.mine.note.board.settings
  noted_settings = sym f.held.same ∙ back.fits.knows.note.settings

  -- the keys of its copies are those that its view shows, and the state's
  count_is : copied_by row ≡ copied_of old.0.mine.part.split
  count_is = ap copied_of (sym row_split)

  key_is : (k : ℕ) → copy_key settings row k ≡ slice_index (copy_keys old.0.mine.note.board.settings old.0.mine.part.split) k
  key_is k = ap (λ o. slice_index (copy_keys settings o) k) (sym row_split) ∙ ap (λ s. slice_index (copy_keys s old.0.mine.part.split) k) noted_settings

  key_there : (k : ℕ) → copy_key settings row k ≡ slice_index (copy_keys f.core.board.settings old.0.mine.part.split) k
  key_there k = ap (λ o. slice_index (copy_keys settings o) k) (sym row_split) ∙ ap (λ s. slice_index (copy_keys s old.0.mine.part.split) k) (sym f.held.same)

  next_shown : copy_key settings row (copied_by row) ≡ next_copy (seat_view old.0)
  next_shown = key_is (copied_by row) ∙ ap (slice_index (copy_keys old.0.mine.note.board.settings old.0.mine.part.split)) count_is

  last_shown : copy_key settings row (copied_by row - 1) ≡ last_copy (seat_view old.0)
  last_shown = key_is (copied_by row - 1) ∙ ap (λ n. slice_index (copy_keys old.0.mine.note.board.settings old.0.mine.part.split) (n - 1)) count_is

  next_there : copy_key settings row (copied_by row) ≡ next_copy (shown_to f.core old.0.actor old.0.mine.part)
  next_there = key_there (copied_by row) ∙ ap (slice_index (copy_keys f.core.board.settings old.0.mine.part.split)) count_is

  last_there : copy_key settings row (copied_by row - 1) ≡ last_copy (shown_to f.core old.0.actor old.0.mine.part)
  last_there = key_there (copied_by row - 1) ∙ ap (λ n. slice_index (copy_keys f.core.board.settings old.0.mine.part.split) (n - 1)) count_is

  -- the page isn't right of a key of which that is known
  low_of_key : (key : ℕ) → (seat_view old.0).low page ≤ key → had.low ≤ key
  low_of_key key low =
      let shows = shows_page f.core old.0.actor r page had at_page in
      let x = low_seated page key f.core old.0 back (known, low) in
      let y = x.1 in
      omega (arith, y, shows.low)

  module _ (n : Node) (made : ActorRow) (new : Seated) (gave : new ≡ (turning m.0 made n, rest m.1)) where
    names : (q : ℕ) → IsTrue (is_named (names_of had) q) → (i : ℕ) → Some q ≡ Some i → IsTrue ((seat_view new.0).named i)
    names q h i e = turn_names settings old m page had a row rows told p is f new made n gave i (subst (λ z. IsTrue (is_named (names_of had) z)) (same_Some q i e) h)

    noting_tells : (rel : State → View → View → Type 0) → PageMakes (visit page) rel → OnlyNotes page had row n made → rel f.core (seat_view old.0) (seat_view new.0)
    noting_tells rel law x = noted_tells settings old m page had a row rows told p is f new made n gave rel law x.row_is x.same

  -- the next copy is made
  module _ (gathered : IsGathered (seat_view was.sight)) (more : (seat_view was.sight).copied < length (seat_view was.sight).copies) (low : (seat_view was.sight).low page ≤ next_copy (seat_view was.sight)) where
    pub copy_more : copied_by row < length (gathered_by row)
    copy_more =
        let x : copied_of old.0.mine.part.split < length (copy_keys old.0.mine.note.board.settings old.0.mine.part.split) = subst (λ (v : Sight). (seat_view v).copied < length (seat_view v).copies) sight_is more in
        omega (arith, x, count_is, keys_many old.0.mine.note.board.settings old.0.mine.part.split, ap (λ o. length (gathered_of o)) row_split)

    pub copy_low : had.low ≤ copy_key settings row (copied_by row)
    copy_low = subst (λ k. had.low ≤ k) (sym next_shown) (low_of_key (next_copy (seat_view old.0)) (subst (λ (v : Sight). (seat_view v).low page ≤ next_copy (seat_view v)) sight_is low))

    -- the entry of which the next copy is
    next_one : (e : Entry) × (slice_get work.gathered work.copied ≡ Some e)
    next_one = some_at work.gathered work.copied (let x = copy_more in omega (arith, x, ap copied_of row_work, ap (λ o. length (gathered_of o)) row_work))

    pub copy_not_there : had.level ≡ 0 → has_entry (copy_key settings row (copied_by row)) (without_dead row.floor.updates had.entries) ≡ false
    copy_not_there leaf =
        subst (λ k. has_entry k (without_dead row.floor.updates had.entries) ≡ false) (sym (next_there ∙ next_is f.core old.0.actor r work splits next_one.0 next_one.1))
        (copy_absent f.core f.held.kept old.0.actor r back.fits.part page had at_page work splits next_one.0 next_one.1 leaf row.floor.updates)

    -- all of the leaf is gathered
    whole : (w : SplitWork) → split_of row.split ≡ Some w → cell_end (grid settings) w.leaf ≤ w.mark
    whole w e =
        let x : is_whole old.0.mine.note.board.settings old.0.mine.part.split ≡ true = subst (λ (v : Sight). (seat_view v).whole ≡ true) sight_is gathered.whole in
        let y : is_whole settings (Some w) ≡ true = ap (λ s. is_whole s (Some w)) noted_settings ∙ ap (is_whole old.0.mine.note.board.settings) (sym (row_split ∙ e)) ∙ x in
        leb-true (cell_end (grid settings) w.leaf) w.mark y

    module _ (n : Node) (made : ActorRow) where
      module _ (e : Entry) (ends : EndsAfter had 0 (copy_key settings row (copied_by row))) (copy : IsRowCopy settings row (copied_by row) e) (x : PutsCopy page (copied_by row) e had row n made) where
        abbrev it : Entry
        it = copy_in_child (grid settings) copy.work.leaf copy.old

        abbrev to : Actor
        to = with_split_at (copied_to (copied_of old.0.mine.part.split + 1) old.0.mine.part.split) page old.0.mine.part

        copied_makes : MakesPage settings old.0.actor old.0.mine page had (put_entry old.0.mine.part.floor.updates it had) to (names_of had) (copy_in page had it)
        copied_makes =
            let key : it.key ≡ copy_key settings row (copied_by row) = ap (λ (z : Entry). z.key) (sym copy.is) ∙ row_key settings row (copied_by row) e copy in
            copy_makes settings old.0.actor old.0.mine page had copy.work copy.old ends.level (row_split ∙ copy.split) (subst (IsInside had.low had.high) (sym key) (record { from_low = copy_low; below_high = ends.under }))
            (whole copy.work copy.split) (ap (slice_get copy.work.gathered) (sym (ap copied_of copy.split)) ∙ copy.there)
            (subst (λ k. length (without_dead k had.entries) < 32) (ap (λ (z : Actor). z.floor.updates) (sym p.row_is)) x.space)

        copied_tie : to ≡ row_actor old.0.mine.note.board.settings old.0.mine.part made
        copied_tie =
            let R : Actor = row_actor old.0.mine.note.board.settings old.0.mine.part row in
            ap (λ (z : Actor). with_split_at (copied_to (copied_of z.split + 1) z.split) page z) p.row_is
            ∙ ap (λ o. with_split_at o page R) (sym x.count) ∙ ap (row_actor old.0.mine.note.board.settings old.0.mine.part) (sym x.row_is)

        copied_node : n ≡ put_entry old.0.mine.part.floor.updates it had
        copied_node = x.put_in ∙ ap (λ z. put_entry row.floor.updates z had) copy.is ∙ ap (λ (z : Actor). put_entry z.floor.updates it had) (sym p.row_is)

        copied_does : HoldsLast m (page + 17) (OfPage had) → Doing settings m.0 (turning m.0 made n) (page + 17) (OfPage n)
        copied_does last = subst (λ (z : Node). Doing settings m.0 (turning m.0 made z) (page + 17) (OfPage z)) (sym copied_node)
            (turn_makes settings old m page had a row rows told p is f (put_entry r.floor.updates it had) to made (copy_in page had it) copied_makes copied_tie last)

        copied_tells : (new : Seated) → new ≡ (turning m.0 made n, rest m.1) → CopiesIn (seat_view old.0) (seat_view new.0) page put.Done
        copied_tells new gave =
            turn_tells settings old m page had a row rows told p is f new made n gave (copy_in page had it) (λ c v w. IsTrue (v.named page) → CopiesIn v w page put.Done)
            (copies_seated page had it) (copied_makes.does f.core f.held.kept f.held.same back.fits at_page).0 to copied_tie (set_there f.core.actors old.0.actor to r back.fits.part)
            (get_or-set_same f.core.pages page (Some (put_entry r.floor.updates it had)) None (within f.core.pages page had at_page) ∙ ap Some (sym copied_node)) refl refl known

      -- a page that is full after a trim is as it was
      module _ (ends : EndsAfter had 0 (copy_key settings row (copied_by row))) (x : IsFull page had row n made) where
        full_items : item_count (trim_leaf row.floor.updates had) ≡ 32
        full_items = ap item_count (trims_leaf row.floor.updates had ends.level) ∙ x.many

        full_notes : OnlyNotes page had row n made
        full_notes = record {
          same = x.trimmed ∙ sym (trims_leaf row.floor.updates had ends.level) ∙ full_kept f.core f.held.kept page had at_page row.floor.updates full_items;
          row_is = x.row_is;
        }

      pub copies_does : (answer : Put) → CopiesRow settings page answer had row n made → HoldsLast m (page + 17) (OfPage had) → Doing settings m.0 (turning m.0 made n) (page + 17) (OfPage n)
      copies_does (put.Down q) x last = noted_does settings old m page had a row rows told p is f made x.1.row_is n x.1.same last
      copies_does (put.Right q) x last = noted_does settings old m page had a row rows told p is f made x.1.row_is n x.1.same last
      copies_does put.PageFull x last = noted_does settings old m page had a row rows told p is f made x.1.row_is n (full_notes x.0 x.1).same last
      copies_does put.Done x last = copied_does x.1 x.0 x.2 x.3 last

      module _ (new : Seated) (gave : new ≡ (turning m.0 made n, rest m.1)) where
        tells : (answer : Put) → CopiesRow settings page answer had row n made → CopiesIn (seat_view old.0) (seat_view new.0) page answer
        tells (put.Down q) x = noting_tells n made new gave
            (λ c v w. IsTrue (v.named page) → ((i : ℕ) → Some q ≡ Some i → IsTrue (w.named i)) → node_at c.pages page ≡ Some had → PointsDown had 0 (next_copy v) q → CopiesIn v w page (put.Down q))
            (copies_down_seated page had q) x.1 known (names n made new gave q (names_child had (copy_key settings row (copied_by row)) q x.0.route)) at_page (subst (λ k. PointsDown had 0 k q) next_shown x.0)
        tells (put.Right q) x = noting_tells n made new gave
            (λ c v w. IsTrue (v.named page) → ((i : ℕ) → Some q ≡ Some i → IsTrue (w.named i)) → node_at c.pages page ≡ Some had → PointsRight had 0 (next_copy v) q → CopiesIn v w page (put.Right q))
            (copies_right_seated page had q) x.1 known (names n made new gave q (names_after had (copy_key settings row (copied_by row)) q x.0.ends)) at_page (subst (λ k. PointsRight had 0 k q) next_shown x.0)
        tells put.PageFull x = noting_tells n made new gave
            (λ c v w. IsTrue (v.named page) → node_at c.pages page ≡ Some had → EndsAfter had 0 (next_copy v) → item_count (trim_leaf v.floor.updates had) ≡ 32 → CopiesIn v w page put.PageFull)
            (copies_full_seated page had) (full_notes x.0 x.1) known at_page (subst (EndsAfter had 0) next_shown x.0) (ap (λ (z : Actor). item_count (trim_leaf z.floor.updates had)) p.row_is ∙ full_items x.0 x.1)
        tells put.Done x = copied_tells x.1 x.0 x.2 x.3 new gave

        pub copies_told : (answer : Put) → CopiesRow settings page answer had row n made → CopiesIn (seat_view was.sight) (seat_view new.0) page answer
        copies_told answer x = subst (λ (v : Sight). CopiesIn (seat_view v) (seat_view new.0) page answer) (sym sight_is) (tells answer x)

  -- the last copy is taken back
  module _ (some : 0 < (seat_view was.sight).copied) (low : (seat_view was.sight).low page ≤ last_copy (seat_view was.sight)) where
    pub uncopy_some : 0 < copied_by row
    uncopy_some = subst (λ n. 0 < n) (sym count_is) (subst (λ (v : Sight). 0 < (seat_view v).copied) sight_is some)

    pub uncopy_few : copied_by row ≤ length (gathered_by row)
    uncopy_few =
        let few = (f.held.kept.sound.entries.works old.0.actor r work back.fits.part splits).few in
        omega (arith, few, ap copied_of row_work, ap (λ o. length (gathered_of o)) row_work)

    pub uncopy_low : had.low ≤ copy_key settings row (copied_by row - 1)
    uncopy_low = subst (λ k. had.low ≤ k) (sym last_shown) (low_of_key (last_copy (seat_view old.0)) (subst (λ (v : Sight). (seat_view v).low page ≤ last_copy (seat_view v)) sight_is low))

    some_copied : 0 < work.copied
    some_copied = subst (λ n. 0 < n) (ap copied_of row_work) uncopy_some

    -- the entry of which the last copy is
    last_one : (e : Entry) × (slice_get work.gathered (work.copied - 1) ≡ Some e)
    last_one = some_at work.gathered (work.copied - 1) (let x = uncopy_few in let y = some_copied in omega (arith, x, y, ap copied_of row_work, ap (λ o. length (gathered_of o)) row_work))

    pub uncopy_there : had.level ≡ 0 → IsInside had.low had.high (copy_key settings row (copied_by row - 1)) → has_entry (copy_key settings row (copied_by row - 1)) had.entries ≡ true
    uncopy_there leaf inside =
        let key = last_there ∙ last_is f.core old.0.actor r work splits last_one.0 last_one.1 in
        subst (λ k. has_entry k had.entries ≡ true) (sym key)
        (copy_there f.core f.held.kept old.0.actor r back.fits.part page had at_page work splits last_one.0 last_one.1 some_copied leaf (subst (IsInside had.low had.high) key inside))

    module _ (n : Node) (made : ActorRow) where
      module _ (e : Entry) (ends : EndsAfter had 0 (copy_key settings row (copied_by row - 1))) (copy : IsRowCopy settings row (copied_by row - 1) e) (x : TakesBack page told e had row n made) where
        abbrev back_it : Entry
        back_it = copy_in_child (grid settings) copy.work.leaf copy.old

        abbrev less : Actor
        less = record (with_split_at (copied_to (copied_of old.0.mine.part.split - 1) old.0.mine.part.split) page old.0.mine.part) { undone = true; early = cond old.0.mine.told old.0.mine.part.early true }

        back_makes : MakesPage settings old.0.actor old.0.mine page had (drop_entry back_it.key had) less (names_of had) (uncopy page had back_it old.0.mine.told)
        back_makes =
            let key : back_it.key ≡ copy_key settings row (copied_by row - 1) = ap (λ (z : Entry). z.key) (sym copy.is) ∙ row_key settings row (copied_by row - 1) e copy in
            let count : copied_by row ≡ copy.work.copied = ap copied_of copy.split in
            uncopy_makes settings old.0.actor old.0.mine page had copy.work copy.old ends.level (row_split ∙ copy.split) (subst (IsInside had.low had.high) (sym key) (record { from_low = uncopy_low; below_high = ends.under }))
            (subst (λ k. 0 < k) count uncopy_some) (ap (λ k. slice_get copy.work.gathered (k - 1)) (sym count) ∙ copy.there)

        back_tie : less ≡ row_actor old.0.mine.note.board.settings old.0.mine.part made
        back_tie =
            let R : Actor = row_actor old.0.mine.note.board.settings old.0.mine.part row in
            ap (λ (z : Actor). let y : Actor = record (with_split_at (copied_to (copied_of z.split - 1) z.split) page z) { undone = true; early = cond old.0.mine.told z.early true } in y) p.row_is
            ∙ ap (λ b. let y : Actor = record (with_split_at (copied_to (copied_by row - 1) (split_of row.split)) page R) { undone = true; early = cond b row.early true } in y) p.told_is
            ∙ ap (λ o. let y : Actor = record (with_split_at o page R) { undone = true; early = cond told row.early true } in y) (sym x.count) ∙ ap (row_actor old.0.mine.note.board.settings old.0.mine.part) (sym x.row_is)

        back_node : n ≡ drop_entry back_it.key had
        back_node = x.left ∙ ap (λ (z : Entry). drop_entry z.key had) copy.is

        back_does : HoldsLast m (page + 17) (OfPage had) → Doing settings m.0 (turning m.0 made n) (page + 17) (OfPage n)
        back_does last = subst (λ (z : Node). Doing settings m.0 (turning m.0 made z) (page + 17) (OfPage z)) (sym back_node)
            (turn_makes settings old m page had a row rows told p is f (drop_entry back_it.key had) less made (uncopy page had back_it old.0.mine.told) back_makes back_tie last)

        back_tells : (new : Seated) → new ≡ (turning m.0 made n, rest m.1) → Uncopies (seat_view old.0) (seat_view new.0) page put.Done
        back_tells new gave =
            turn_tells settings old m page had a row rows told p is f new made n gave (uncopy page had back_it old.0.mine.told) (λ c v w. IsTrue (v.named page) → old.0.mine.told ≡ v.told → Uncopies v w page put.Done)
            (uncopies_seated page had back_it old.0.mine.told) (back_makes.does f.core f.held.kept f.held.same back.fits at_page).0 less back_tie (set_there f.core.actors old.0.actor less r back.fits.part)
            (get_or-set_same f.core.pages page (Some (drop_entry back_it.key had)) None (within f.core.pages page had at_page) ∙ ap Some (sym back_node)) refl refl known refl

      pub uncopies_does : (answer : Put) → UncopiesRow settings page told answer had row n made → HoldsLast m (page + 17) (OfPage had) → Doing settings m.0 (turning m.0 made n) (page + 17) (OfPage n)
      uncopies_does (put.Down q) x last = noted_does settings old m page had a row rows told p is f made x.1.row_is n x.1.same last
      uncopies_does (put.Right q) x last = noted_does settings old m page had a row rows told p is f made x.1.row_is n x.1.same last
      uncopies_does put.PageFull x last = absurd x
      uncopies_does put.Done x last = back_does x.1 x.0 x.2 x.3 last

      module _ (new : Seated) (gave : new ≡ (turning m.0 made n, rest m.1)) where
        back_told : (answer : Put) → UncopiesRow settings page told answer had row n made → Uncopies (seat_view old.0) (seat_view new.0) page answer
        back_told (put.Down q) x = noting_tells n made new gave
            (λ c v w. IsTrue (v.named page) → ((i : ℕ) → Some q ≡ Some i → IsTrue (w.named i)) → node_at c.pages page ≡ Some had → PointsDown had 0 (last_copy v) q → Uncopies v w page (put.Down q))
            (uncopies_down_seated page had q) x.1 known (names n made new gave q (names_child had (copy_key settings row (copied_by row - 1)) q x.0.route)) at_page (subst (λ k. PointsDown had 0 k q) last_shown x.0)
        back_told (put.Right q) x = noting_tells n made new gave
            (λ c v w. IsTrue (v.named page) → ((i : ℕ) → Some q ≡ Some i → IsTrue (w.named i)) → node_at c.pages page ≡ Some had → PointsRight had 0 (last_copy v) q → Uncopies v w page (put.Right q))
            (uncopies_right_seated page had q) x.1 known (names n made new gave q (names_after had (copy_key settings row (copied_by row - 1)) q x.0.ends)) at_page (subst (λ k. PointsRight had 0 k q) last_shown x.0)
        back_told put.PageFull x = absurd x
        back_told put.Done x = back_tells x.1 x.0 x.2 x.3 new gave

        pub uncopies_told : (answer : Put) → UncopiesRow settings page told answer had row n made → Uncopies (seat_view was.sight) (seat_view new.0) page answer
        uncopies_told answer x = subst (λ (v : Sight). Uncopies (seat_view v) (seat_view new.0) page answer) (sym sight_is) (back_told answer x)
