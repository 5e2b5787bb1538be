-- A gather of a pass.
use Rattle.std.proofs.Common.{◌≡◌, ℕ, ◌+◌, ◌-◌, ◌≤◌, Bool, IsTrue, refl, sym, ap, ◌∙◌, subst, arith, Option, Some, None, Result, Ok, Err}
use Rattle.std.proofs.lemmas.Option.{none-some, same_Some}
use Rattle.atomic_table.specs.Seated.{TableId}
use Rattle.atomic_table.specs.Table.{rest}
use Rattle.mi_base.specs.Configuration.{Configuration}
use Rattle.mi_base.specs.declared.refusals.NoMemory.{NoMemory}
use Rattle.mi_core.specs.Events.{leaf_or, with_split_at}
use Rattle.mi_core.specs.Events.Event.{gather, start}
use Rattle.mi_core.specs.State.{State, node_at}
use Rattle.mi_core.proofs.ActorLemmas.{set_there}
use Rattle.mi_entries.specs.Actors.{Actor, SplitWork}
use Rattle.mi_entries.specs.Entries.{grid}
use Rattle.mi_entries.specs.Marks.{cell_end, cell_range, gather_more, split_or}
use Rattle.mi_entries.specs.Records.{Rows}
use Rattle.mi_latch.specs.declared.slots.Slot.TheVariants.{OfPage}
use Rattle.mi_latch.specs.Naming.{names_of}
use Rattle.mi_latch.specs.PageSteps.{MakesPage}
use Rattle.mi_latch.specs.Takes.{Finds, see_none, took}
use Rattle.mi_latch.specs.Views.{Doing, HoldsLast, Seated, Sight}
use Rattle.mi_latch.proofs.PageMakes.{gather_makes, start_makes}
use Rattle.mi_page.specs.Keys.{IsInside}
use Rattle.mi_page.specs.Nodes.{Node}
use Rattle.mi_solo.specs.declared.rows.ActorRow.{ActorRow}
use Rattle.mi_solo.specs.Seeking.{EndsAfter, PointsDown, PointsRight, ReadsOn}
use Rattle.mi_solo.specs.States.{split_of}
use Rattle.mi_solo.proofs.DescentLemmas.{shows_page}
use Rattle.mi_solo.proofs.GatherRows.{row_claims}
use Rattle.mi_solo.proofs.GatherEvents.{leaf_is, mark_is}
use Rattle.mi_solo.proofs.MarkLemmas.{end_is}
use Rattle.mi_world.specs.declared.answers.Visit.{Visit}
use Rattle.mi_world.specs.declared.answers.Visit.TheVariants.{Down, Right, Read}
use Rattle.mi_world.specs.LeafKeys.{greatest_key}
use Rattle.mi_world.specs.Splits.{Gathers, MayGather, gather_key, last_key}
use Rattle.mi_world.specs.View.{View, prefix_or}
use Rattle.mi_solo.specs.GatherRows.{GathersMore, GathersRow, IsClaiming, StartsRow, row_work}
use Rattle.mi_hall.specs.Knowledge.{is_named}
use Rattle.mi_hall.specs.Passes.{IsPass, PassState, row_actor, turning}
use Rattle.mi_hall.specs.Places.{IsBacked, PageMakes}
use Rattle.mi_hall.specs.Seats.{seat_view}
use Rattle.mi_hall.proofs.NamedPages.{names_after, names_child}
use Rattle.mi_hall.proofs.PageSection.{backed, here, turn_makes, turn_names, turn_tells}
use Rattle.mi_hall.proofs.SeatConditions.{low_seated, seat_backed}
use Rattle.mi_hall.proofs.SplitPlaces.{gathers_down_seated, gathers_none_seated, gathers_right_seated, gathers_seated}

module _ (settings : Configuration) (old m : Seated) (page : ℕ) (had : Node) (a : ℕ) (row : ActorRow) (rows : Option Rows) (told : Bool) (p : IsPass old a row rows told) (is : m ≡ took see_none old (page + 17) (OfPage had))
    (f : Finds settings old.0 (page + 17) (OfPage had)) (table : TableId) (was : PassState) (same : record { sight = old.0; table = table } ≡ was)
    (may_then : MayGather (seat_view was.sight)) (shown : IsTrue ((seat_view was.sight).named page)) (low : (seat_view was.sight).low page ≤ gather_key (seat_view was.sight)) where
  abbrev r : Actor
  r = old.0.mine.part

  sight_is : was.sight ≡ old.0
  sight_is = ap (λ (z : PassState). z.sight) (sym same)

  back : IsBacked f.core old.0
  back = backed settings old m page had a row rows told p is f

  at_page : node_at f.core.pages page ≡ Some had
  at_page = here settings old m page had a row rows told p is f

  known : IsTrue ((seat_view old.0).named page)
  known = subst (λ (v : Sight). IsTrue ((seat_view v).named page)) sight_is shown

  may : MayGather (seat_view old.0)
  may = subst (λ (v : Sight). MayGather (seat_view v)) sight_is may_then

  -- its record claims and splits what the row does
  row_claim : old.0.mine.part.claim ≡ row.claim
  row_claim = ap (λ (z : Actor). z.claim) p.row_is

  row_split : old.0.mine.part.split ≡ split_of row.split
  row_split = ap (λ (z : Actor). z.split) p.row_is

  claimed : old.0.mine.part.claim ≡ Some may.leaf
  claimed = may.leaf_is

  pub gather_claims : IsClaiming settings row
  gather_claims = subst (λ (s : Configuration). IsClaiming s row) f.held.same (row_claims f.core f.held.kept old.0.actor r back.fits.part row row_claim row_split may.leaf claimed)

  -- the split under way, by the record's own claim and split
  abbrev W : Configuration → SplitWork
  W s = split_or (grid s) (leaf_or old.0.mine.part.claim) old.0.mine.part.split

  work_is : row_work settings row ≡ W settings
  work_is = ap (λ (z : Actor). split_or (grid settings) (leaf_or z.claim) z.split) (sym p.row_is)

  noted_settings : settings ≡ old.0.mine.note.board.settings
  noted_settings = sym f.held.same ∙ back.fits.knows.note.settings

  mark_shown : (row_work settings row).mark ≡ gather_key (seat_view old.0)
  mark_shown =
      ap (λ (w : SplitWork). w.mark) (work_is ∙ ap W (sym f.held.same)) ∙ mark_is f.core f.held.kept old.0.actor r back.fits.part back.going page may.leaf claimed
      ∙ sym (ap gather_key (seat_backed f.core old.0 back))

  pub gather_low : had.low ≤ (row_work settings row).mark
  gather_low =
      let shows = shows_page f.core old.0.actor r page had at_page in
      let l = subst (λ (v : Sight). (seat_view v).low page ≤ gather_key (seat_view v)) sight_is low in
      let x = low_seated page (gather_key (seat_view old.0)) f.core old.0 back (known, l) in
      let y = x.1 in
      subst (λ k. had.low ≤ k) (sym mark_shown) (omega (arith, y, shows.low))

  last_shown : (cell_range (grid settings) (row_work settings row).leaf).to ≡ last_key (seat_view old.0) (seat_view old.0).leaf
  last_shown =
      let leaf : (row_work settings row).leaf ≡ prefix_or old.0.mine.part.claim =
      ap (λ (w : SplitWork). w.leaf) (work_is ∙ ap W (sym f.held.same)) ∙ leaf_is f.core f.held.kept old.0.actor r back.fits.part back.going page may.leaf claimed ∙ ap leaf_or claimed ∙ sym (ap prefix_or claimed) in
      let one : cell_end (grid settings) (row_work settings row).leaf - 1 ≡ greatest_key settings (row_work settings row).leaf = omega (arith, end_is settings (row_work settings row).leaf) in
      one ∙ ap (greatest_key settings) leaf ∙ ap (λ s. greatest_key s (prefix_or old.0.mine.part.claim)) noted_settings

  -- the record after a start, and after a gather, by any settings
  abbrev begun : Configuration → Actor
  begun s = with_split_at (Some (split_or (grid s) (leaf_or old.0.mine.part.claim) old.0.mine.part.split)) page old.0.mine.part

  abbrev grown : Configuration → Actor
  grown s = with_split_at (Some (gather_more (grid s) (split_or (grid s) (leaf_or old.0.mine.part.claim) old.0.mine.part.split) had)) page old.0.mine.part

  begun_makes : MakesPage settings old.0.actor old.0.mine page had had (begun settings) (names_of had) (start page)
  begun_makes = start_makes settings old.0.actor old.0.mine page had may.leaf claimed may.wanted

  module _ (made : ActorRow) where
    alone_tie : made ≡ record row { page = page; split = made.split } → (o : Option SplitWork) → o ≡ split_of made.split → with_split_at o page old.0.mine.part ≡ row_actor old.0.mine.note.board.settings old.0.mine.part made
    alone_tie alone o e =
        ap (λ (z : Actor). with_split_at o page z) p.row_is ∙ ap (λ x. with_split_at x page (row_actor old.0.mine.note.board.settings old.0.mine.part row)) e
        ∙ ap (row_actor old.0.mine.note.board.settings old.0.mine.part) (sym alone)

    begun_tie : StartsRow settings page row made → begun settings ≡ row_actor old.0.mine.note.board.settings old.0.mine.part made
    begun_tie x = alone_tie x.row_is (Some (W settings)) (ap Some (sym work_is) ∙ sym x.begun)

    grown_tie : GathersMore settings page had row made → grown settings ≡ row_actor old.0.mine.note.board.settings old.0.mine.part made
    grown_tie x = alone_tie x.row_is (Some (gather_more (grid settings) (W settings) had)) (ap (λ w. Some (gather_more (grid settings) w had)) (sym work_is) ∙ sym x.more)

    grown_makes : EndsAfter had 0 (row_work settings row).mark → MakesPage settings old.0.actor old.0.mine page had had (grown settings) (names_of had) (gather page had)
    grown_makes ends =
        let mark : (row_work settings row).mark ≡ (split_or (grid settings) may.leaf old.0.mine.part.split).mark =
        ap (λ (w : SplitWork). w.mark) work_is ∙ ap (λ o. (split_or (grid settings) (leaf_or o) old.0.mine.part.split).mark) claimed in
        gather_makes settings old.0.actor old.0.mine page had may.leaf ends.level claimed may.wanted (subst (IsInside had.low had.high) mark (record { from_low = gather_low; below_high = ends.under }))

    starts_does : StartsRow settings page row made → HoldsLast m (page + 17) (OfPage had) → Doing settings m.0 (turning m.0 made had) (page + 17) (OfPage had)
    starts_does x last = turn_makes settings old m page had a row rows told p is f had (begun settings) made (start page) begun_makes (begun_tie x) last

    pub gathers_does : (answer : Result Visit NoMemory) → GathersRow settings page answer had row made → HoldsLast m (page + 17) (OfPage had) → Doing settings m.0 (turning m.0 made had) (page + 17) (OfPage had)
    gathers_does (Ok (Down q)) x last = starts_does x.1 last
    gathers_does (Ok (Right q)) x last = starts_does x.1 last
    gathers_does (Ok (Read next)) x last = turn_makes settings old m page had a row rows told p is f had (grown settings) made (gather page had) (grown_makes x.1.ends) (grown_tie x.1) last
    gathers_does (Err e) x last = starts_does x last

    module _ (new : Seated) (gave : new ≡ (turning m.0 made had, rest m.1)) where
      names : (q : ℕ) → IsTrue (is_named (names_of had) q) → (i : ℕ) → Some q ≡ Some i → IsTrue ((seat_view new.0).named i)
      names q h i e = turn_names settings old m page had a row rows told p is f new made had gave i (subst (λ z. IsTrue (is_named (names_of had) z)) (same_Some q i e) h)

      read_names : (next : Option ℕ) (to : ℕ) → ReadsOn had to next → (q : ℕ) → next ≡ Some q → IsTrue ((seat_view new.0).named q)
      read_names None to x q e = absurd (none-some q e)
      read_names (Some i) to x q e = names i (names_after had to i x) q e

      starts_tell : (rel : State → View → View → Type 0) → PageMakes (start page) rel → StartsRow settings page row made → rel f.core (seat_view old.0) (seat_view new.0)
      starts_tell rel law x =
          turn_tells settings old m page had a row rows told p is f new made had gave (start page) rel law (begun_makes.does f.core f.held.kept f.held.same back.fits at_page).0
          (begun f.core.board.settings) (ap begun f.held.same ∙ begun_tie x) (set_there f.core.actors old.0.actor (begun f.core.board.settings) r back.fits.part) at_page refl refl

      tells : (answer : Result Visit NoMemory) → GathersRow settings page answer had row made → Gathers (seat_view old.0) (seat_view new.0) page answer
      tells (Ok (Down q)) x = starts_tell
          (λ c v w. IsTrue (v.named page) → ((i : ℕ) → Some q ≡ Some i → IsTrue (w.named i)) → node_at c.pages page ≡ Some had → PointsDown had 0 (gather_key v) q → Gathers v w page (Ok (Down q)))
          (gathers_down_seated page had q) x.1 known (names q (names_child had (row_work settings row).mark q x.0.route)) at_page (subst (λ k. PointsDown had 0 k q) mark_shown x.0)
      tells (Ok (Right q)) x = starts_tell
          (λ c v w. IsTrue (v.named page) → ((i : ℕ) → Some q ≡ Some i → IsTrue (w.named i)) → node_at c.pages page ≡ Some had → PointsRight had 0 (gather_key v) q → Gathers v w page (Ok (Right q)))
          (gathers_right_seated page had q) x.1 known (names q (names_after had (row_work settings row).mark q x.0.ends)) at_page (subst (λ k. PointsRight had 0 k q) mark_shown x.0)
      tells (Err e) x = starts_tell (λ c v w. IsTrue (v.named page) → Gathers v w page (Err e)) (gathers_none_seated page e) x known
      tells (Ok (Read next)) x =
          turn_tells settings old m page had a row rows told p is f new made had gave (gather page had)
          (λ c v w. IsTrue (v.named page) → ((i : ℕ) → next ≡ Some i → IsTrue (w.named i)) → ReadsOn had (last_key v v.leaf) next → Gathers v w page (Ok (Read next)))
          (gathers_seated page had next) ((grown_makes x.1.ends).does f.core f.held.kept f.held.same back.fits at_page).0
          (grown f.core.board.settings) (ap grown f.held.same ∙ grown_tie x.1) (set_there f.core.actors old.0.actor (grown f.core.board.settings) r back.fits.part) at_page refl refl
          known (read_names next (cell_range (grid settings) (row_work settings row).leaf).to x.0) (subst (λ k. ReadsOn had k next) last_shown x.0)

      pub gathers_told : (answer : Result Visit NoMemory) → GathersRow settings page answer had row made → Gathers (seat_view was.sight) (seat_view new.0) page answer
      gathers_told answer x = subst (λ (v : Sight). Gathers (seat_view v) (seat_view new.0) page answer) (sym sight_is) (tells answer x)
