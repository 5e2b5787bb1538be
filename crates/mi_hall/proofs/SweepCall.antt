-- A sweep of a pass.
use Rattle.std.proofs.Common.{◌≡◌, ℕ, ◌+◌, ◌≤◌, Bool, IsTrue, sym, ap, ◌∙◌, subst, arith, Option, Some, None}
use Rattle.std.specs.Prelude.{IsSome}
use Rattle.std.proofs.lemmas.Option.{none-some, same_Some}
use Rattle.atomic_table.specs.Seated.{TableId}
use Rattle.atomic_table.specs.Table.{rest}
use Rattle.mi_base.specs.Configuration.{Configuration}
use Rattle.mi_core.specs.Events.Event.{sweep, visit}
use Rattle.mi_core.specs.State.{State, node_at}
use Rattle.mi_entries.specs.Actors.{Actor}
use Rattle.mi_entries.specs.Records.{Rows}
use Rattle.mi_latch.specs.declared.slots.Slot.TheVariants.{OfPage}
use Rattle.mi_latch.specs.Naming.{names_of}
use Rattle.mi_latch.specs.Takes.{Finds, see_none, took}
use Rattle.mi_latch.specs.Views.{Doing, HoldsLast, Seated, Sight}
use Rattle.mi_page.specs.Nodes.{Node}
use Rattle.mi_solo.specs.declared.rows.ActorRow.{ActorRow}
use Rattle.mi_solo.specs.Seeking.{PointsDown, PointsRight, ReadsOn}
use Rattle.mi_solo.specs.States.{sweep_of}
use Rattle.mi_solo.specs.Viewing.{swept_leaf, swept_to}
use Rattle.mi_solo.proofs.DescentLemmas.{shows_page}
use Rattle.mi_solo.proofs.SweepSections.{last_swept, row_sweeps, sweep_event, sweep_is, sweeps_keep}
use Rattle.mi_solo.specs.OnPages.{TurnsPage}
use Rattle.mi_world.specs.declared.answers.Visit.{Visit}
use Rattle.mi_world.specs.declared.answers.Visit.TheVariants.{Down, Right, Read}
use Rattle.mi_world.specs.LeafKeys.{greatest_key}
use Rattle.mi_world.specs.Splits.{Sweeps, last_key}
use Rattle.mi_world.specs.View.{View, prefix_or}
use Rattle.mi_hall.specs.Knowledge.{is_named}
use Rattle.mi_solo.specs.LeafRows.{IsSweeping, SweepsRow, swept_mark, swept_range}
use Rattle.mi_solo.specs.PageRows.{OnlyNotes}
use Rattle.mi_hall.specs.Passes.{IsPass, PassState, row_actor, turning}
use Rattle.mi_hall.specs.Places.{IsBacked, PageMakes}
use Rattle.mi_hall.specs.Seats.{seat_view}
use Rattle.mi_hall.proofs.NamedPages.{names_after, names_child}
use Rattle.mi_hall.proofs.PagePlaces.{sweeps_down_seated, sweeps_right_seated, sweeps_seated}
use Rattle.mi_hall.proofs.PageSection.{backed, here, noted_tells, row_gives, row_tells, turn_names}
use Rattle.mi_hall.proofs.SeatConditions.{low_seated}

module _ (settings : Configuration) (old m : Seated) (page : ℕ) (had : Node) (a : ℕ) (row : ActorRow) (rows : Option Rows) (told : Bool) (p : IsPass old a row rows told) (is : m ≡ took see_none old (page + 17) (OfPage had))
    (f : Finds settings old.0 (page + 17) (OfPage had)) (table : TableId) (was : PassState) (same : record { sight = old.0; table = table } ≡ was)
    (given : IsSome (seat_view was.sight).sweep) (shown : IsTrue ((seat_view was.sight).named page)) (low : (seat_view was.sight).low page ≤ (seat_view was.sight).swept) where
  abbrev r : Actor
  r = old.0.mine.part

  sight_is : was.sight ≡ old.0
  sight_is = ap (λ (z : PassState). z.sight) (sym same)

  back : IsBacked f.core old.0
  back = backed settings old m page had a row rows told p is f

  at_page : node_at f.core.pages page ≡ Some had
  at_page = here settings old m page had a row rows told p is f

  -- its record sweeps what the row does
  row_sweep : old.0.mine.part.sweep ≡ sweep_of row.sweep
  row_sweep = ap (λ (z : Actor). z.sweep) p.row_is

  pub sweep_works : IsSweeping settings row
  sweep_works = subst (λ (s : Configuration). IsSweeping s row) f.held.same (row_sweeps f.core f.held.kept old.0.actor r back.fits.part row row_sweep (subst (λ (v : Sight). IsSome (seat_view v).sweep) sight_is given))

  low_part : had.low ≤ swept_to old.0.mine.part.sweep
  low_part =
      let shows = shows_page f.core old.0.actor r page had at_page in
      let x = low_seated page (swept_to old.0.mine.part.sweep) f.core old.0 back (subst (λ (v : Sight). IsTrue ((seat_view v).named page) × ((seat_view v).low page ≤ (seat_view v).swept)) sight_is (shown, low)) in
      let y = x.1 in
      omega (arith, y, shows.low)

  pub sweep_low : had.low ≤ swept_mark row
  sweep_low = subst (λ o. had.low ≤ swept_to o) row_sweep low_part

  -- the state's settings are the table's, and the noted board's too
  noted_settings : settings ≡ old.0.mine.note.board.settings
  noted_settings = sym f.held.same ∙ back.fits.knows.note.settings

  module _ (n : Node) (made : ActorRow) where
    -- it is the core's event, of any state that has the page
    turns : (answer : Visit) → SweepsRow settings page answer had row n made → (c : State) → c.board.settings ≡ settings → node_at c.pages page ≡ Some had
        → TurnsPage c old.0.actor (row_actor old.0.mine.note.board.settings old.0.mine.part row) (sweep_event page had answer) page n (row_actor old.0.mine.note.board.settings old.0.mine.part made)
    turns answer x c set_by there =
        let b = old.0.mine.note.board.settings in
        sweep_is c old.0.actor page had n there b old.0.mine.part.own row made (set_by ∙ noted_settings) (subst (λ (s : Configuration). IsSweeping s row) noted_settings sweep_works) sweep_low answer
        (subst (λ (s : Configuration). SweepsRow s page answer had row n made) noted_settings x)

    pub sweeps_does : (answer : Visit) → SweepsRow settings page answer had row n made → HoldsLast m (page + 17) (OfPage had) → Doing settings m.0 (turning m.0 made n) (page + 17) (OfPage n)
    sweeps_does answer x = row_gives settings old m page had a row rows told p is f n made (sweep_event page had answer) (sweeps_keep settings page had n row made answer x).0 (λ c k set_by fits there. turns answer x c set_by there)

    module _ (new : Seated) (gave : new ≡ (turning m.0 made n, rest m.1)) where
      known : IsTrue ((seat_view old.0).named page)
      known = subst (λ (v : Sight). IsTrue ((seat_view v).named page)) sight_is shown

      names : (q : ℕ) → IsTrue (is_named (names_of had) q) → (i : ℕ) → Some q ≡ Some i → IsTrue ((seat_view new.0).named i)
      names q h i e = turn_names settings old m page had a row rows told p is f new made n gave i (subst (λ z. IsTrue (is_named (names_of had) z)) (same_Some q i e) h)

      noting_tells : (rel : State → View → View → Type 0) → PageMakes (visit page) rel → OnlyNotes page had row n made → rel f.core (seat_view old.0) (seat_view new.0)
      noting_tells rel law x = noted_tells settings old m page had a row rows told p is f new made n gave rel law x.row_is x.same

      mark_is : swept_mark row ≡ (seat_view old.0).swept
      mark_is = ap swept_to (sym row_sweep)

      -- the last key of the leaf
      last_is : (swept_range settings row).to ≡ last_key (seat_view old.0) (seat_view old.0).sweep
      last_is = last_swept settings row ∙ ap (λ o. greatest_key settings (prefix_or (swept_leaf o))) (sym row_sweep) ∙ ap (λ s. greatest_key s (prefix_or (swept_leaf old.0.mine.part.sweep))) noted_settings

      read_names : (next : Option ℕ) → ReadsOn had (swept_range settings row).to next → (q : ℕ) → next ≡ Some q → IsTrue ((seat_view new.0).named q)
      read_names None x q e = absurd (none-some q e)
      read_names (Some i) x q e = names i (names_after had (swept_range settings row).to i x) q e

      tells : (answer : Visit) → SweepsRow settings page answer had row n made → Sweeps (seat_view old.0) (seat_view new.0) page answer
      tells (Down q) x = noting_tells
          (λ c v w. IsTrue (v.named page) → ((i : ℕ) → Some q ≡ Some i → IsTrue (w.named i)) → node_at c.pages page ≡ Some had → PointsDown had 0 v.swept q → Sweeps v w page (Down q))
          (sweeps_down_seated page had q) x.1 known (names q (names_child had (swept_mark row) q x.0.route)) at_page (subst (λ k. PointsDown had 0 k q) mark_is x.0)
      tells (Right q) x = noting_tells
          (λ c v w. IsTrue (v.named page) → ((i : ℕ) → Some q ≡ Some i → IsTrue (w.named i)) → node_at c.pages page ≡ Some had → PointsRight had 0 v.swept q → Sweeps v w page (Right q))
          (sweeps_right_seated page had q) x.1 known (names q (names_after had (swept_mark row) q x.0.ends)) at_page (subst (λ k. PointsRight had 0 k q) mark_is x.0)
      tells (Read next) x =
          row_tells settings old m page had a row rows told p is f new made n gave (sweep page had)
          (λ c v w. IsTrue (v.named page) → ((i : ℕ) → next ≡ Some i → IsTrue (w.named i)) → ReadsOn had (last_key v v.sweep) next → Sweeps v w page (Read next))
          (sweeps_seated page had next) (turns (Read next) x f.core f.held.same at_page) (sweeps_keep settings page had n row made (Read next) x).0 (sweeps_keep settings page had n row made (Read next) x).1
          known (read_names next x.0) (subst (λ k. ReadsOn had k next) last_is x.0)

      pub sweeps_told : (answer : Visit) → SweepsRow settings page answer had row n made → Sweeps (seat_view was.sight) (seat_view new.0) page answer
      sweeps_told answer x = subst (λ (v : Sight). Sweeps (seat_view v) (seat_view new.0) page answer) (sym sight_is) (tells answer x)
