-- A trim of a pass.
use Rattle.std.proofs.Common.{◌≡◌, ℕ, ◌+◌, Bool, IsTrue, sym, ap, ◌∙◌, subst, Option, Some, None}
use Rattle.std.proofs.lemmas.Option.{none-some, same_Some}
use Rattle.atomic_table.specs.Seated.{TableId}
use Rattle.atomic_table.specs.Table.{rest}
use Rattle.mi_base.specs.Configuration.{Configuration}
use Rattle.mi_core.specs.Events.Event.{trim}
use Rattle.mi_core.specs.State.{State, node_at}
use Rattle.mi_entries.specs.Actors.{Actor}
use Rattle.mi_entries.specs.Records.{Rows}
use Rattle.mi_latch.specs.declared.slots.Slot.TheVariants.{OfPage}
use Rattle.mi_latch.specs.Naming.{names_of}
use Rattle.mi_latch.specs.Takes.{Finds, see_none, took}
use Rattle.mi_latch.specs.Views.{Doing, HoldsLast, Seated, Sight}
use Rattle.mi_page.specs.Nodes.{Node}
use Rattle.mi_solo.specs.declared.rows.ActorRow.{ActorRow}
use Rattle.mi_solo.specs.OnPages.{TurnsPage}
use Rattle.mi_solo.specs.PageRows.{TrimsRow}
use Rattle.mi_solo.specs.Seeking.{TrimsTo}
use Rattle.mi_solo.proofs.DescentLemmas.{shows_page}
use Rattle.mi_solo.proofs.PageTurns.{trim_is, trims_keep}
use Rattle.mi_world.specs.declared.answers.Visit.{Visit}
use Rattle.mi_world.specs.declared.answers.Visit.TheVariants.{Down, Right, Read}
use Rattle.mi_world.specs.Pages.{Trims}
use Rattle.mi_hall.specs.Knowledge.{is_named}
use Rattle.mi_hall.specs.Passes.{IsPass, PassState, row_actor, turning}
use Rattle.mi_hall.specs.Places.{IsBacked}
use Rattle.mi_hall.specs.Seats.{seat_view}
use Rattle.mi_hall.proofs.NamedPages.{names_right}
use Rattle.mi_hall.proofs.PagePlaces.{trims_seated}
use Rattle.mi_hall.proofs.PageSection.{backed, here, row_gives, row_tells, turn_names}
use Rattle.mi_hall.proofs.SeatConditions.{leaf_page_seated}

-- the page on which a trim goes on is one that the page in hand names
trim_names : (n : Node) (next : Option ℕ) → TrimsTo n next → (q : ℕ) → next ≡ Some q → IsTrue (is_named (names_of n) q)
trim_names n None x q e = absurd (none-some q e)
trim_names n (Some p) x q e = subst (λ i. IsTrue (is_named (names_of n) i)) (same_Some p q e) (names_right n x.0 p x.1 x.2)

module _ (settings : Configuration) (old m : Seated) (page : ℕ) (had : Node) (a : ℕ) (row : ActorRow) (rows : Option Rows) (told : Bool) (p : IsPass old a row rows told) (is : m ≡ took see_none old (page + 17) (OfPage had))
    (f : Finds settings old.0 (page + 17) (OfPage had)) (table : TableId) (was : PassState) (same : record { sight = old.0; table = table } ≡ was)
    (shown : IsTrue ((seat_view was.sight).named page)) (leaf : (seat_view was.sight).level page ≡ 0) where
  abbrev r : Actor
  r = old.0.mine.part

  sight_is : was.sight ≡ old.0
  sight_is = ap (λ (z : PassState). z.sight) (sym same)

  back : IsBacked f.core old.0
  back = backed settings old m page had a row rows told p is f

  at_page : node_at f.core.pages page ≡ Some had
  at_page = here settings old m page had a row rows told p is f

  pub trim_leaf_page : had.level ≡ 0
  trim_leaf_page =
      let shows = shows_page f.core old.0.actor r page had at_page in
      sym shows.level ∙ (leaf_page_seated page f.core old.0 back (subst (λ (v : Sight). IsTrue ((seat_view v).named page) × ((seat_view v).level page ≡ 0)) sight_is (shown, leaf))).1

  module _ (n : Node) (made : ActorRow) (answer : Visit) (x : TrimsRow page answer had row n made) where
    -- it is the core's event, of any state that has the page
    turns : (c : State) → node_at c.pages page ≡ Some had → TurnsPage c old.0.actor (row_actor old.0.mine.note.board.settings old.0.mine.part row) (trim page had) page n (row_actor old.0.mine.note.board.settings old.0.mine.part made)
    turns c there = trim_is c old.0.actor page had n there old.0.mine.note.board.settings old.0.mine.part.own row made trim_leaf_page answer x

    pub trims_does : HoldsLast m (page + 17) (OfPage had) → Doing settings m.0 (turning m.0 made n) (page + 17) (OfPage n)
    trims_does = row_gives settings old m page had a row rows told p is f n made (trim page had) (trims_keep page had n row made answer x).0 (λ c k set_by fits there. turns c there)

    module _ (new : Seated) (gave : new ≡ (turning m.0 made n, rest m.1)) where
      reads : (next : Option ℕ) → TrimsTo had next → Trims (seat_view old.0) (seat_view new.0) page (Read next)
      reads next to =
          row_tells settings old m page had a row rows told p is f new made n gave (trim page had)
          (λ c v w. IsTrue (v.named page) → ((q : ℕ) → next ≡ Some q → IsTrue (w.named q)) → TrimsTo had next → Trims v w page (Read next))
          (trims_seated page had next) (turns f.core at_page) (trims_keep page had n row made answer x).0 (trims_keep page had n row made answer x).1
          (subst (λ (v : Sight). IsTrue ((seat_view v).named page)) sight_is shown) (λ q e. turn_names settings old m page had a row rows told p is f new made n gave q (trim_names had next to q e)) to

  -- what it tells
  pub trims_told : (n : Node) (made : ActorRow) (new : Seated) → new ≡ (turning m.0 made n, rest m.1) → (answer : Visit) → TrimsRow page answer had row n made → Trims (seat_view was.sight) (seat_view new.0) page answer
  trims_told n made new gave (Down q) x = absurd x
  trims_told n made new gave (Right q) x = absurd x
  trims_told n made new gave (Read next) x = subst (λ (v : Sight). Trims (seat_view v) (seat_view new.0) page (Read next)) (sym sight_is) (reads n made (Read next) x new gave next x.0)
