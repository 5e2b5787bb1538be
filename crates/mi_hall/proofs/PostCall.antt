-- A post of a pass.
use Rattle.std.proofs.Common.{◌≡◌, ℕ, ◌+◌, ◌≤◌, ◌<◌, Bool, IsTrue, sym, ap, ◌∙◌, subst, arith, Option, Some}
use Rattle.std.proofs.lemmas.Option.{same_Some}
use Rattle.atomic_table.specs.Seated.{TableId}
use Rattle.atomic_table.specs.Table.{rest}
use Rattle.mi_base.specs.Configuration.{Configuration}
use Rattle.mi_core.specs.Effects.{trim_leaf}
use Rattle.mi_core.specs.Events.{MayPost as CanPost}
use Rattle.mi_core.specs.Events.Event.{post, visit}
use Rattle.mi_core.specs.State.{State, node_at}
use Rattle.mi_entries.specs.Actors.{Actor}
use Rattle.mi_entries.specs.Records.{Rows}
use Rattle.mi_latch.specs.declared.slots.Slot.TheVariants.{OfPage}
use Rattle.mi_latch.specs.Naming.{names_of}
use Rattle.mi_latch.specs.Takes.{Finds, see_none, took}
use Rattle.mi_latch.specs.Views.{Doing, Fits, HoldsLast, Seated, Sight}
use Rattle.mi_page.specs.Nodes.{Node, item_count}
use Rattle.mi_solo.specs.declared.rows.ActorRow.{ActorRow}
use Rattle.mi_solo.specs.OnPages.{TurnsPage}
use Rattle.mi_solo.specs.Seeking.{EndsAfter, PointsDown, PointsRight}
use Rattle.mi_solo.specs.Viewing.{shown_to}
use Rattle.mi_solo.proofs.DescentLemmas.{page_stands, shows_page}
use Rattle.mi_solo.proofs.PageTurns.{post_event, post_is, posts_keep}
use Rattle.mi_solo.proofs.RouteEvents.{can_post}
use Rattle.mi_solo.proofs.RouteSections.{few_routes, routes_stay}
use Rattle.mi_world.specs.declared.answers.Put.{Put}
use Rattle.mi_world.specs.declared.answers.Put.TheVariants as put
use Rattle.mi_world.specs.Pages.{IsChildAt, MayPost, Posts}
use Rattle.mi_world.specs.View.{View}
use Rattle.mi_hall.specs.Knowledge.{is_named}
use Rattle.mi_solo.specs.PageRows.{OnlyNotes, PostsRow}
use Rattle.mi_hall.specs.Passes.{IsPass, PassState, row_actor, turning}
use Rattle.mi_hall.specs.Places.{IsBacked, PageMakes}
use Rattle.mi_hall.specs.Seats.{seat_view}
use Rattle.mi_hall.proofs.NamedPages.{named_as, names_after, names_child}
use Rattle.mi_hall.proofs.PagePlaces.{posts_done_seated, posts_down_seated, posts_full_seated, posts_right_seated}
use Rattle.mi_hall.proofs.PageSection.{backed, here, noted_tells, row_gives, row_tells, turn_names}
use Rattle.mi_hall.proofs.SeatConditions.{child_seated, post_seated}

module _ (settings : Configuration) (old m : Seated) (page : ℕ) (had : Node) (a : ℕ) (row : ActorRow) (rows : Option Rows) (told : Bool) (p : IsPass old a row rows told) (is : m ≡ took see_none old (page + 17) (OfPage had))
    (f : Finds settings old.0 (page + 17) (OfPage had)) (table : TableId) (was : PassState) (same : record { sight = old.0; table = table } ≡ was)
    (level key child : ℕ) (route : IsChildAt (seat_view was.sight) level key child) (seeks : MayPost (seat_view was.sight) page level key) where
  abbrev r : Actor
  r = old.0.mine.part

  sight_is : was.sight ≡ old.0
  sight_is = ap (λ (z : PassState). z.sight) (sym same)

  back : IsBacked f.core old.0
  back = backed settings old m page had a row rows told p is f

  at_page : node_at f.core.pages page ≡ Some had
  at_page = here settings old m page had a row rows told p is f

  -- what it needs is so in the state that the take found
  may : MayPost (shown_to f.core old.0.actor old.0.mine.part) page level key
  may = post_seated page level key f.core old.0 back (subst (λ (v : Sight). MayPost (seat_view v) page level key) sight_is seeks)

  of_child : IsChildAt (shown_to f.core old.0.actor old.0.mine.part) level key child
  of_child = child_seated level key child f.core old.0 back (subst (λ (v : Sight). IsChildAt (seat_view v) level key child) sight_is route)

  pub post_inner : 0 < level
  post_inner = omega (arith, route.level_is)

  pub post_above : level ≤ had.level
  post_above = let shows = shows_page f.core old.0.actor r page had at_page in omega (arith, shows.level, may.level_is)

  pub post_low : had.low ≤ key
  post_low = let shows = shows_page f.core old.0.actor r page had at_page in omega (arith, shows.low, may.low_is)

  -- the page is above the leaf pages, so that it has no entry to trim
  inner : EndsAfter had level key → 0 < had.level
  inner ends = omega (arith, ends.level, post_inner)

  can : EndsAfter had level key → item_count had < 32 → CanPost f.core had key child
  can ends few = can_post f.core old.0.actor r level key child of_child page had at_page may.low_is ends
      (few_routes had (page_stands f.core f.held.kept page had at_page) (inner ends) (λ e. absurd (omega (arith, few, e))))

  -- so it is in each state that the seat fits: that the child is linked is known for good
  can_in : (c : State) → Fits c old.0.actor old.0.mine → EndsAfter had level key → item_count had < 32 → CanPost c had key child
  can_in c fits ends few =
      let seen = subst (λ (v : Sight). IsChildAt (seat_view v) level key child) sight_is route in
      let y = named_as old.0.mine.named child seen.named in
      let s = fits.knows.named y.0 y.2 in
      let may_post = can ends few in
      record {
        inside = may_post.inside;
        space = may_post.space;
        below = s.node;
        there = subst (λ i. node_at c.pages i ≡ Some s.node) y.1 s.there;
        level = ap (λ l. l + 1) s.level ∙ ap (λ l. l + 1) y.3 ∙ seen.level_is ∙ sym ends.level;
        low = s.low ∙ y.4 ∙ seen.low_is;
      }

  module _ (n : Node) (made : ActorRow) where
    -- it is the core's event, of any state that has the page
    turns : (answer : Put) → PostsRow page level key child answer had row n made → (c : State) → Fits c old.0.actor old.0.mine → node_at c.pages page ≡ Some had
        → TurnsPage c old.0.actor (row_actor old.0.mine.note.board.settings old.0.mine.part row) (post_event page key child had answer) page n (row_actor old.0.mine.note.board.settings old.0.mine.part made)
    turns answer x c fits there = post_is c old.0.actor page had n there old.0.mine.note.board.settings old.0.mine.part.own row made level key child (can_in c fits) answer x

    pub posts_does : (answer : Put) → PostsRow page level key child answer had row n made → HoldsLast m (page + 17) (OfPage had) → Doing settings m.0 (turning m.0 made n) (page + 17) (OfPage n)
    posts_does answer x = row_gives settings old m page had a row rows told p is f n made (post_event page key child had answer) (posts_keep page level key child had n row made answer x).0 (λ c k set_by fits there. turns answer x c fits there)

    module _ (new : Seated) (gave : new ≡ (turning m.0 made n, rest m.1)) where
      known : IsTrue ((seat_view old.0).named page)
      known = subst (λ (v : Sight). IsTrue ((seat_view v).named page)) sight_is seeks.named

      names : (q : ℕ) → IsTrue (is_named (names_of had) q) → (i : ℕ) → Some q ≡ Some i → IsTrue ((seat_view new.0).named i)
      names q h i e = turn_names settings old m page had a row rows told p is f new made n gave i (subst (λ z. IsTrue (is_named (names_of had) z)) (same_Some q i e) h)

      noting_tells : (answer : Put) (rel : State → View → View → Type 0) → PageMakes (visit page) rel → OnlyNotes page had row n made → rel f.core (seat_view old.0) (seat_view new.0)
      noting_tells answer rel law x = noted_tells settings old m page had a row rows told p is f new made n gave rel law x.row_is x.same

      tells : (answer : Put) → PostsRow page level key child answer had row n made → Posts (seat_view old.0) (seat_view new.0) page level key child answer
      tells (put.Down q) x = noting_tells (put.Down q)
          (λ c v w. IsTrue (v.named page) → ((i : ℕ) → Some q ≡ Some i → IsTrue (w.named i)) → node_at c.pages page ≡ Some had → PointsDown had level key q → Posts v w page level key child (put.Down q))
          (posts_down_seated page had level key child q) x.1 known (names q (names_child had key q x.0.route)) at_page x.0
      tells (put.Right q) x = noting_tells (put.Right q)
          (λ c v w. IsTrue (v.named page) → ((i : ℕ) → Some q ≡ Some i → IsTrue (w.named i)) → node_at c.pages page ≡ Some had → PointsRight had level key q → Posts v w page level key child (put.Right q))
          (posts_right_seated page had level key child q) x.1 known (names q (names_after had key q x.0.ends)) at_page x.0
      tells put.PageFull x = noting_tells put.PageFull
          (λ c v w. IsTrue (v.named page) → node_at c.pages page ≡ Some had → EndsAfter had level key → item_count (trim_leaf v.floor.updates had) ≡ 32 → Posts v w page level key child put.PageFull)
          (posts_full_seated page had level key child) x.2 known at_page x.0 (ap item_count (routes_stay (seat_view old.0).floor.updates had (inner x.0)) ∙ x.1)
      tells put.Done x =
          let keeps = posts_keep page level key child had n row made put.Done x in
          row_tells settings old m page had a row rows told p is f new made n gave (post page had key child) (λ c v w. IsTrue (v.named page) → had.level ≡ level → Posts v w page level key child put.Done)
          (posts_done_seated page had level key child) (turns put.Done x f.core back.fits at_page) keeps.0 keeps.1 known x.0.level

      pub posts_told : (answer : Put) → PostsRow page level key child answer had row n made → Posts (seat_view was.sight) (seat_view new.0) page level key child answer
      posts_told answer x = subst (λ (v : Sight). Posts (seat_view v) (seat_view new.0) page level key child answer) (sym sight_is) (tells answer x)
