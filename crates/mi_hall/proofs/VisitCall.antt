-- A visit of a pass.
use Rattle.std.proofs.Common.{◌≡◌, ℕ, ◌+◌, ◌≤◌, ◌<◌, Bool, IsTrue, length, refl, sym, ap, ◌∙◌, subst, arith, Option, Some, None}
use Rattle.std.specs.Prelude.{IsSome}
use Rattle.std.specs.Arc.{arc_value}
use Rattle.std.specs.List.{AllByRecursion}
use Rattle.std.proofs.lemmas.Option.{none-some, same_Some}
use Rattle.atomic_table.specs.Seated.{TableId}
use Rattle.atomic_table.specs.Table.{rest}
use Rattle.mi_base.specs.Configuration.{Configuration}
use Rattle.mi_base.specs.History.{updates_of}
use Rattle.mi_base.specs.declared.records.Position.{Position}
use Rattle.mi_core.specs.State.{node_at}
use Rattle.mi_entries.specs.Actors.{Actor, Pin}
use Rattle.mi_entries.specs.Records.{Rows}
use Rattle.mi_key.specs.declared.entries.Entry.{Entry}
use Rattle.mi_key.specs.declared.ranges.Interval.{Interval}
use Rattle.mi_latch.specs.declared.slots.Slot.TheVariants.{OfPage}
use Rattle.mi_latch.specs.Naming.{names_of}
use Rattle.mi_latch.specs.Takes.{Finds, see_none, took}
use Rattle.mi_latch.specs.Views.{Seated, Sight}
use Rattle.mi_page.specs.Entries.{shown_in}
use Rattle.mi_page.specs.Nodes.{Node}
use Rattle.mi_solo.specs.declared.rows.ActorRow.{ActorRow}
use Rattle.mi_solo.specs.declared.rows.PinRow.{PinRow}
use Rattle.mi_solo.specs.Seeking.{AnswersVisit, offered_of}
use Rattle.mi_solo.specs.States.{pin_of}
use Rattle.mi_solo.proofs.CoreLemmas.{of_catalog, pin_there}
use Rattle.mi_solo.proofs.DescentLemmas.{shows_page}
use Rattle.mi_solo.proofs.ReaderLemmas.{pin_counts, takes_page}
use Rattle.mi_world.specs.declared.answers.Visit.{Visit}
use Rattle.mi_world.specs.declared.answers.Visit.TheVariants.{Down, Right, Read}
use Rattle.mi_world.specs.Pages.{IsInLeaf, MayVisit, TakesAll, Visits, offered_by, pinned}
use Rattle.mi_world.specs.View.{View}
use Rattle.mi_hall.specs.Knowledge.{is_named}
use Rattle.mi_hall.specs.Leading.{page_of_visit}
use Rattle.mi_hall.specs.Passes.{IsPass, PassState, turning}
use Rattle.mi_hall.specs.Places.{IsBacked}
use Rattle.mi_hall.specs.Seats.{seat_view}
use Rattle.mi_hall.proofs.NamedPages.{names_after, names_child}
use Rattle.mi_hall.proofs.PagePlaces.{offers_seated, visits_seated}
use Rattle.mi_hall.proofs.PageSection.{backed, here, noted_tells, turn_names}
use Rattle.mi_hall.proofs.PassLemmas.{pin_shown}
use Rattle.mi_hall.proofs.SeatConditions.{seat_backed, visit_seated}

-- the page that an answer names is one that the page in hand names
pub visit_names : (n : Node) (range : Interval) (r : Visit) → AnswersVisit n range r → (q : ℕ) → page_of_visit r ≡ Some q → IsTrue (is_named (names_of n) q)
visit_names n range (Down p) x q e = subst (λ i. IsTrue (is_named (names_of n) i)) (same_Some p q e) (names_child n range.from p x.route)
visit_names n range (Right p) x q e = subst (λ i. IsTrue (is_named (names_of n) i)) (same_Some p q e) (names_after n range.from p x.ends)
visit_names n range (Read None) x q e = absurd (none-some q e)
visit_names n range (Read (Some p)) x q e = subst (λ i. IsTrue (is_named (names_of n) i)) (same_Some p q e) (names_after n range.to p x.1)

-- a row's pin is at the position of the pin that it stands for
pub row_pin : (settings : Configuration) (q : PinRow) (pin : Pin) → pin_of settings (Some q) ≡ Some pin → pin.at ≡ q.at
row_pin settings q pin e = sym (ap (λ (z : Pin). z.at) (same_Some (record { at = q.at; cells = (arc_value q.cells).leaves }) pin (sym (pin_there settings q (of_catalog settings q pin e)) ∙ e)))

module _ (settings : Configuration) (old m : Seated) (page : ℕ) (had : Node) (a : ℕ) (row : ActorRow) (rows : Option Rows) (told : Bool) (p : IsPass old a row rows told) (is : m ≡ took see_none old (page + 17) (OfPage had))
    (f : Finds settings old.0 (page + 17) (OfPage had)) (table : TableId) (was : PassState) (same : record { sight = old.0; table = table } ≡ was) where
  abbrev r : Actor
  r = old.0.mine.part

  abbrev s : Configuration
  s = old.0.mine.note.board.settings

  sight_is : was.sight ≡ old.0
  sight_is = ap (λ (z : PassState). z.sight) (sym same)

  back : IsBacked f.core old.0
  back = backed settings old m page had a row rows told p is f

  at_page : node_at f.core.pages page ≡ Some had
  at_page = here settings old m page had a row rows told p is f

  pub visit_low : (range : Interval) → IsTrue ((seat_view was.sight).named page) → MayVisit (seat_view was.sight) page range → 0 < had.level → had.low ≤ range.from
  visit_low range named low above =
      let shows = shows_page f.core old.0.actor r page had at_page in
      let x = visit_seated page range f.core old.0 back (subst (λ (v : Sight). IsTrue ((seat_view v).named page) × MayVisit (seat_view v) page range) sight_is (named, low)) in
      let y = x.1 (omega (arith, above, shows.level)) in
      omega (arith, y, shows.low)

  pub visit_takes : (takes : Entry → Type 0) → TakesAll (seat_view was.sight) takes → (range : Interval) (u : ℕ) → had.level ≡ 0 → AllByRecursion takes (shown_in range u had.entries)
  visit_takes takes all range u leaf = takes_page f.core f.held.kept page had at_page leaf old.0.actor r takes
      (subst (λ (v : View). TakesAll v takes) (seat_backed f.core old.0 back) (subst (λ (v : Sight). TakesAll (seat_view v) takes) sight_is all)) range u

  module _ (some : IsSome (seat_view was.sight).pin) where
    has_pin : (pin : Pin) × (old.0.mine.part.pin ≡ Some pin)
    has_pin = pin_shown old.0.mine.log old.0.mine.part.pin (subst (λ (v : Sight). IsSome (seat_view v).pin) sight_is some)

    pin_is : pin_of old.0.mine.note.board.settings row.pin ≡ Some has_pin.0
    pin_is = sym (ap (λ (z : Actor). z.pin) p.row_is) ∙ has_pin.1

    pub visit_pinned : row.pin ≡ None → ⊥
    visit_pinned none = none-some has_pin.0 (sym (ap (pin_of old.0.mine.note.board.settings) none) ∙ pin_is)

    -- as many updates are pinned as the row's pin tells
    pub visit_counts : (q : PinRow) → row.pin ≡ Some q → length (updates_of (pinned (seat_view old.0))) ≡ q.at.updates
    visit_counts q e =
        ap (λ (v : View). length (updates_of (pinned v))) (seat_backed f.core old.0 back)
        ∙ pin_counts f.core f.held.kept old.0.actor r back.fits.part has_pin.0 has_pin.1
        ∙ ap (λ (x : Position). x.updates) (row_pin s q has_pin.0 (ap (pin_of s) (sym e) ∙ pin_is))

  module _ (made : ActorRow) (is_made : made ≡ record row { page = page }) where
    module _ (new : Seated) (gave : new ≡ (turning m.0 made had, rest m.1)) (range : Interval) (answer : Visit) (answers : AnswersVisit had range answer) (named : IsTrue ((seat_view was.sight).named page)) where
      known : IsTrue ((seat_view old.0).named page)
      known = subst (λ (v : Sight). IsTrue ((seat_view v).named page)) sight_is named

      names : (q : ℕ) → page_of_visit answer ≡ Some q → IsTrue ((seat_view new.0).named q)
      names q e = turn_names settings old m page had a row rows told p is f new made had gave q (visit_names had range answer answers q e)

      pub visit_told : Visits (seat_view was.sight) (seat_view new.0) page range answer
      visit_told = subst (λ (v : Sight). Visits (seat_view v) (seat_view new.0) page range answer) (sym sight_is)
          (noted_tells settings old m page had a row rows told p is f new made had gave
          (λ c v w. IsTrue (v.named page) → ((q : ℕ) → page_of_visit answer ≡ Some q → IsTrue (w.named q)) → node_at c.pages page ≡ Some had → AnswersVisit had range answer → Visits v w page range answer)
          (visits_seated page had range answer) is_made refl known names at_page answers)

      pub visit_offers : (some : IsSome (seat_view was.sight).pin) → IsInLeaf (seat_view was.sight) range → (q : PinRow) → row.pin ≡ Some q
          → offered_of had range q.at.updates answer ≡ offered_by (seat_view was.sight) (seat_view new.0) page range answer
      visit_offers some inside q e =
          ap (λ n. offered_of had range n answer) (sym (visit_counts some q e))
          ∙ subst (λ (v : Sight). offered_of had range (length (updates_of (pinned (seat_view old.0)))) answer ≡ offered_by (seat_view v) (seat_view new.0) page range answer) (sym sight_is)
          (noted_tells settings old m page had a row rows told p is f new made had gave
          (λ c v w. IsTrue (v.named page) → ((q : ℕ) → page_of_visit answer ≡ Some q → IsTrue (w.named q)) → node_at c.pages page ≡ Some had → IsSome v.pin → IsInLeaf v range → AnswersVisit had range answer
          → offered_of had range (length (updates_of (pinned v))) answer ≡ offered_by v w page range answer)
          (offers_seated page had range answer) is_made refl known names at_page
          (subst (λ (v : Sight). IsSome (seat_view v).pin) sight_is some) (subst (λ (v : Sight). IsInLeaf (seat_view v) range) sight_is inside) answers)
