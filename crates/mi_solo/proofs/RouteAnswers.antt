-- The event that each section of routes is, by its answer, and what the trait tells of it.
use Rattle.std.proofs.Common.{◌≡◌, ℕ, ◌<◌, Bool, true, false, cond, ◌==◌, sym, subst, ap, ◌∙◌, arith, Some}
use Rattle.std.proofs.lemmas.Option.{get_or_from_slice_get}
use Rattle.mi_core.specs.Actors.{made_by}
use Rattle.mi_core.specs.Effects.{trim_leaf}
use Rattle.mi_core.specs.Events.{Can, MayPost as CanPost, after, first_actor}
use Rattle.mi_core.specs.Events.Event.{split_page, trim, visit}
use Rattle.mi_core.specs.Kept.{Kept}
use Rattle.mi_core.specs.State.{State, put_page}
use Rattle.mi_entries.specs.Actors.{Actor}
use Rattle.mi_page.specs.Nodes.{Node, item_count, middle_key}
use Rattle.mi_world.specs.declared.answers.Parted.{Parted}
use Rattle.mi_world.specs.declared.answers.Parted.TheVariants.{Parted as HasParted, Roomy}
use Rattle.mi_world.specs.declared.answers.Put.{Put}
use Rattle.mi_world.specs.declared.answers.Put.TheVariants.{Done, Down, PageFull, Right}
use Rattle.mi_world.specs.Boards.{Grew}
use Rattle.mi_world.specs.Pages.{IsChildAt, MayPost, PartsPage, Posts}
use Rattle.mi_solo.specs.declared.cores.Core.{Core}
use Rattle.mi_solo.specs.declared.rows.ActorRow.{ActorRow}
use Rattle.mi_solo.specs.OnPages.{OnPage}
use Rattle.mi_solo.specs.PageRows.{HalvesWhole, PostsRow}
use Rattle.mi_solo.specs.Routes.{GrowsRoot, HalvesPage, LinksHalf, trims_leaf}
use Rattle.mi_solo.specs.Seeking.{EndsAfter}
use Rattle.mi_solo.specs.Solos.{view_of}
use Rattle.mi_solo.specs.States.{Does, IsGoing, actor_in, state_of, view_in}
use Rattle.mi_solo.proofs.CoreLemmas.{there}
use Rattle.mi_solo.proofs.DescentLemmas.{page_stands}
use Rattle.mi_solo.proofs.PageTurns.{halve_is, page_does, post_event, post_is, roomy_is}
use Rattle.mi_solo.proofs.RouteEvents.{can_post}
use Rattle.mi_solo.proofs.RouteLaws.{full_kept, parts, parts_after_trim, parts_none, posts_done, posts_down, posts_full, posts_right, roots_grow, roots_stay}
use Rattle.mi_solo.proofs.RouteSections.{few_routes, routes_stay}
use Rattle.mi_solo.proofs.SoloLemmas.{Answered, after_view, answered, now, solo_of}

-- the halving of a full page is its event
halves_whole : (s : State) → Kept s → (a page key child : ℕ) (t : State) → (x : LinksHalf s a page key child t)
    → Does s a (split_page page x.halved.was) t × (key ≡ middle_key x.halved.was) × ((actor_in s a).fresh ≡ Some child)
halves_whole s k a page key child t x =
    let h = x.halved in
    let its = get_or_from_slice_get s.actors a _ first_actor h.row_is in
    let many = h.does.0 in
    let whole = subst (λ (z : Node). HalvesWhole page z h.row x.upper h.new h.made) (full_kept s k page h.was h.there h.row.floor.updates many) h.does.1 in
    let fresh : h.row.hand.fresh ≡ Some child = sym (ap (λ (r : Actor). r.fresh) its) ∙ x.fresh in
    let y = halve_is s a page h.was h.new h.there s.board.settings (made_by a s.board.log) h.row h.made x.upper whole many child fresh in (
      record {
        can = subst (λ r. Can s a r (split_page page h.was)) (sym its) y.0;
        is = x.is ∙ ap (put_page child x.upper) h.is ∙ sym y.1 ∙ ap (λ r. after s a r (split_page page h.was)) (sym its);
      },
      x.low ∙ ap (λ (m : Node). m.low) whole.upper_is,
      x.fresh,
    )

module _ (c d : Core) (a : ℕ) (k : Kept (state_of c)) (g : IsGoing c a) where
  pub answer_grow : (level key child : ℕ) (r : Bool) → GrowsRoot (state_of c) a level key child r (state_of d) → Answered c d a (λ v w. Grew v w level child r)
  answer_grow level key child true x = answered c d a k g x tt (roots_grow level key child (state_of c) k a (actor_in (state_of c) a) _ (there c a g.known) g.going x.can (now c d a k g x))
  answer_grow level key child false x = answered c d a k g x.0 tt (roots_stay level child (state_of c) k a (actor_in (state_of c) a) _ (there c a g.known) g.going x.0.can (now c d a k g x.0))

  -- a route is posted into a page
  module _ (page level key child : ℕ) (route : IsChildAt (view_in (state_of c) a) level key child) (seeks : MayPost (view_in (state_of c) a) page level key) where
    posts : (r : Put) → (x : OnPage (state_of c) a page (PostsRow page level key child r) (state_of d)) → Does (state_of c) a (post_event page key child x.was r) (state_of d)
    posts r x =
        let s = state_of c in
        let may : EndsAfter x.was level key → item_count x.was < 32 → CanPost s x.was key child = λ ends few.
        can_post s a (actor_in s a) level key child route page x.was x.there seeks.low_is ends
        (few_routes x.was (page_stands s k page x.was x.there) (omega (arith, ends.level, route.level_is)) (λ e. absurd (omega (arith, few, e)))) in
        page_does s a page (state_of d) x (post_event page key child x.was r) (post_is s a page x.was x.new x.there s.board.settings (made_by a s.board.log) x.row x.made level key child may r x.does)

    pub answer_post : (r : Put) → OnPage (state_of c) a page (PostsRow page level key child r) (state_of d) → Answered c d a (λ v w. Posts v w page level key child r)
    answer_post (Down p) x = let y = posts (Down p) x in
        answered c d a k g y tt (posts_down page x.was level key child p (state_of c) k a (actor_in (state_of c) a) _ (there c a g.known) g.going y.can (now c d a k g y) x.there x.does.0)
    answer_post (Right p) x = let y = posts (Right p) x in
        answered c d a k g y tt (posts_right page x.was level key child p (state_of c) k a (actor_in (state_of c) a) _ (there c a g.known) g.going y.can (now c d a k g y) x.there x.does.0)
    answer_post PageFull x = let y = posts PageFull x in
        let inner : 0 < x.was.level = omega (arith, x.does.0.level, route.level_is) in
        answered c d a k g y tt (posts_full page x.was level key child (state_of c) k a (actor_in (state_of c) a) _ (there c a g.known) g.going y.can (now c d a k g y) x.there x.does.0
        (ap item_count (routes_stay (actor_in (state_of c) a).floor.updates x.was inner) ∙ x.does.1))
    answer_post Done x = let y = posts Done x in
        answered c d a k g y tt (posts_done page x.was level key child (state_of c) k a (actor_in (state_of c) a) _ (there c a g.known) g.going y.can (now c d a k g y) x.does.0.level)

  -- a page is halved
  module _ (page : ℕ) where
    -- the row's floor is its record's
    floor_is : {makes : Node → ActorRow → Node → ActorRow → Type 0} (t : State) (x : OnPage (state_of c) a page makes t) → (actor_in (state_of c) a).floor.updates ≡ x.row.floor.updates
    floor_is t x = ap (λ (r : Actor). r.floor.updates) (get_or_from_slice_get (state_of c).actors a _ first_actor x.row_is)

    pub answer_halve : (r : Parted) → HalvesPage (state_of c) a page r (state_of d) → Answered c d a (λ v w. PartsPage v w page r)
    answer_halve (HasParted key child) x =
        let s = state_of c in
        let h = x.halved in
        let y = halves_whole s k a page key child (state_of d) x in
        answered c d a k g y.0 tt (subst (λ z. PartsPage (view_of (solo_of c a)) (after_view c d a k g y.0) page (HasParted z child)) (sym y.1)
        (parts page h.was child s k a (actor_in s a) _ (there c a g.known) g.going y.0.can (now c d a k g y.0) y.2))
    answer_halve Roomy x =
        let s = state_of c in
        let n = x.was in
        let y = page_does s a page (state_of d) x (trims_leaf page n) (roomy_is s a page n x.new x.there s.board.settings (made_by a s.board.log) x.row x.made x.does) in
        let few : item_count (trim_leaf (actor_in s a).floor.updates n) < 32 = subst (λ f. item_count (trim_leaf f n) < 32) (sym (floor_is (state_of d) x)) x.does.0 in
        let P : Bool → Type 0 = λ b. Does s a (cond b (trim page n) (visit page)) (state_of d) → Answered c d a (λ v w. PartsPage v w page Roomy) in
        (elim (n.level == 0) as P [
          | true ↦ λ z. answered c d a k g z tt (parts_after_trim page n s k a (actor_in s a) _ (there c a g.known) g.going z.can (now c d a k g z) few)
          | false ↦ λ z. answered c d a k g z tt (parts_none page n s k a (actor_in s a) _ (there c a g.known) g.going z.can (now c d a k g z) x.there few)
        ]) y
