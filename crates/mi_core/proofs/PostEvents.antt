-- A route that is posted, and a new root, keep what is kept.
use Rattle.std.proofs.Common.{◌≡◌, ◌≢◌, ℕ, suc, zero, ◌+◌, ◌<◌, List, [], ◌∷◌, length, set, Bool, true, false, cond, refl, sym, ap, ◌∙◌, subst, arith, Option, Some, None, length-set, get_or-set_other}
use Rattle.std.specs.Prelude.{slice_get}
use Rattle.mi_base.specs.History.{entered, events_at}
use Rattle.mi_base.specs.Sorting.{put}
use Rattle.mi_page.specs.Keys.{IsInside}
use Rattle.mi_page.specs.Nodes.{Node, item_count}
use Rattle.mi_page.specs.Routes.{has_route, route_cmp}
use Rattle.mi_core.specs.Actors.{Suits}
use Rattle.mi_board.specs.Boards.{floor_of}
use Rattle.mi_core.specs.Effects.{paid}
use Rattle.mi_core.specs.Events.{MayPost, after}
use Rattle.mi_core.specs.Events.Event.{post}
use Rattle.mi_forest.specs.Forests.{Forest, IsForest, IsLinked, LeadsDown, all_entries}
use Rattle.mi_core.specs.Sound.{Sound}
use Rattle.mi_forest.specs.Changes.{SetsPage, with_routes}
use Rattle.mi_core.specs.Pages.{forest_of, has_page, node_or_fresh}
use Rattle.mi_entries.specs.Splits.{AreEntries}
use Rattle.mi_core.specs.State.{count_if, State, node_at, put_actor, put_page}
use Rattle.mi_entries.specs.Actors.{Actor}
use Rattle.mi_core.proofs.ActorLemmas.{SameHands, claims_stay, each_set, held_stays, holders_stay, retired_stay, sweeps_stay, works_stay}
use Rattle.mi_entries.proofs.ContentLemmas.{entries_stay}
use Rattle.mi_forest.proofs.EventLemmas.{post_event}
use Rattle.mi_core.proofs.KeptLemmas.{some_none}
use Rattle.mi_forest.proofs.MoveLemmas.{stands}
use Rattle.mi_core.proofs.PageLemmas.{forest_held, linked_set, page_sets, root_set, there_set, within}
use Rattle.mi_tree.proofs.ListLemmas.{all_weaker}

module _ (s : State) (k : Sound s) (a : ℕ) (r : Actor) (there : slice_get s.actors a ≡ Some r) where
  mine : Suits s.board s.shards s.pages a r
  mine = k.each a r there

  -- one page is another of its level, and all entries are as before
  module _ (page : ℕ) (node y : Node) (on : node_at s.pages page ≡ Some node) (q : Actor) (same : SameHands r q) where
    abbrev actors' : List Actor
    actors' = set s.actors a q

    abbrev pages' : List (Option Node)
    pages' = set s.pages page (Some y)

    pub fresh_kept : (p : ℕ) → node_at s.pages p ≡ None → node_at pages' p ≡ None
    fresh_kept p h =
        let apart : p ≢ page = λ one. some_none node (sym on ∙ ap (node_at s.pages) (sym one) ∙ h) in
        get_or-set_other s.pages page p (Some y) None apart ∙ h

    pub page_keeps : IsForest (forest_of s.board pages' actors' k.chain) → all_entries (forest_of s.board pages' actors' k.chain) ≡ all_entries (forest_of s.board s.pages s.actors k.chain) → y.level ≡ node.level
        → Suits s.board s.shards pages' a q → Sound (put_actor a q (put_page page y s))
    page_keeps forest flat_is level own = record {
      limits = k.limits;
      metric = k.metric;
      chain = k.chain;
      pages = (let p = k.pages in record {
        forest = forest;
        linked = linked_set s.board s.board s.pages s.actors actors' k.chain p refl refl (held_stays s.actors a r q there same) page node y on level;
        there = there_set s.board s.board s.pages s.actors actors' k.chain p refl refl (held_stays s.actors a r q there same) page node y on level;
        height = root_set s.board s.board s.pages s.actors actors' k.chain p refl refl (held_stays s.actors a r q there same) page node y on level;
        length_is = length-set s.pages page (Some y) ∙ p.length_is;
        most = p.most;
        passed_over = p.passed_over;
      });
      entries = subst (AreEntries s.board.settings s.board.log (events_at (floor_of s.board)) actors' s.board.retired) (sym flat_is)
          (entries_stay s.actors actors' (works_stay s.actors a r q there same) s.board.settings s.board.log (events_at (floor_of s.board)) s.board.retired (all_entries (forest_of s.board s.pages s.actors k.chain)) k.entries);
      each = each_set s.actors a r q there (λ b t. Suits s.board s.shards pages' b t) own (λ b t n z. let o = k.each b t z in record { saw = o.saw; own = o.own; holds = o.holds; sweep = o.sweep; fresh = λ p f. let m = o.fresh p f in (m.0, fresh_kept p m.1) });
      retired = retired_stay s.actors a r q there same s.board.log s.board.retired k.retired;
      order = k.order;
      sixteen = k.sixteen;
      holders = λ n b h. holders_stay s.actors a r q there same n b (k.holders n b h);
      claims = claims_stay s.actors a r q there same k.claims;
      sweeps = sweeps_stay s.actors a r q there same k.sweeps;
      records = k.records;
      counted = k.counted ∙ sym (length-set s.actors a q);
      made = all_weaker _ _ (λ m l. omega (arith, l, length-set s.actors a q)) (entered s.board.log) k.made;
      legal = k.legal;
    }

  module _ (page : ℕ) (node : Node) (key child : ℕ) (on : node_at s.pages page ≡ Some node) (may : MayPost s node key child) where
    abbrev posted : Actor
    posted = record r { page = page; owed = paid child r.owed }

    hands : SameHands r posted
    hands = record { shard = refl; claim = refl; sweep = refl; split = refl; fresh = refl }

    abbrev old : Forest
    old = forest_of s.board s.pages s.actors k.chain

    node_is : old.node page ≡ node
    node_is = ap node_or_fresh on

    below_is : old.node child ≡ may.below
    below_is = ap node_or_fresh may.there

    leads : LeadsDown old node.level (record { key = key; child = child })
    leads = record {
      linked = k.pages.linked child may.below may.there;
      height = ap (λ (n : Node). n.level + 1) below_is ∙ may.level;
      low = ap (λ (n : Node). n.low) below_is ∙ may.low;
    }

    own_posted : (y : Node) → Suits s.board s.shards (set s.pages page (Some y)) a posted
    own_posted y =
        let h = mine.holds in
        record {
          saw = (let v = mine.saw in record { seen = v.seen; floor = v.floor; low = v.low; pin = v.pin });
          own = mine.own;
          holds = record { claim = h.claim; reserved = h.reserved; pin = h.pin; shard = h.shard; leaf = h.leaf; split = h.split; room = h.room };
          sweep = mine.sweep;
          fresh = λ p f. let m = mine.fresh p f in (m.0, fresh_kept page node y on posted hands p m.1);
        }

    -- the route is there already
    same_page : (y : Node) → y ≡ node → Sound (put_actor a posted (put_page page y s))
    same_page y e = subst (λ (z : Node). Sound (put_actor a posted (put_page page z s))) (sym e)
        (page_keeps page node node on posted hands
        (subst (λ (ps : List (Option Node)). IsForest (forest_of s.board ps (set s.actors a posted) k.chain)) (sym (set_same s.pages page (Some node) on))
        (forest_held old (λ n. count_if (has_page n) (set s.actors a posted)) (held_stays s.actors a r posted there hands) k.pages.forest))
        (ap (λ (ps : List (Option Node)). all_entries (forest_of s.board ps (set s.actors a posted) k.chain)) (set_same s.pages page (Some node) on))
        refl (own_posted node))
      where
        set_same : (ps : List (Option Node)) (p : ℕ) (x : Option Node) → node_at ps p ≡ x → set ps p x ≡ ps
        set_same [] p x h = refl
        set_same (z ∷ ps) zero x h = ap (λ o. o ∷ ps) (sym h)
        set_same (z ∷ ps) (suc p) x h = ap (λ os. z ∷ os) (set_same ps p x h)

    abbrev routed : Node
    routed = with_routes node (put route_cmp (record { key = key; child = child }) node.routes)

    new_page : has_route key node.routes ≡ false → length node.routes < 32 → Sound (put_actor a posted (put_page page routed s))
    new_page absent space =
        let new : Forest = forest_of s.board (set s.pages page (Some routed)) (set s.actors a posted) k.chain in
        let level = may.level in
        let above : 0 < (old.node page).level = subst (λ (n : Node). 0 < n.level) (sym node_is) (omega arith) in
        let linked : IsLinked old page = k.pages.linked page node on in
        let none : length (old.node page).entries ≡ 0 = ap length ((stands old k.pages.forest page linked).stands.page.inner above) in
        let few : item_count (old.node page) < 32 = (let z = ap (λ (n : Node). length n.routes) node_is in omega arith) in
        let is = post_event old new k.pages.forest page linked above (record { key = key; child = child }) few
        (subst (λ (n : Node). IsInside n.low n.high key) (sym node_is) may.inside)
        (subst (λ (n : Node). has_route key n.routes ≡ false) (sym node_is) absent)
        (subst (λ (n : Node). LeadsDown old n.level (record { key = key; child = child })) (sym node_is) leads)
        (subst (λ (n : Node). SetsPage old new page (with_routes n (put route_cmp (record { key = key; child = child }) n.routes))) (sym node_is)
        (page_sets s.board s.board s.pages s.actors (set s.actors a posted) k.chain refl refl (held_stays s.actors a r posted there hands) page routed (within s.pages page node on))) in
        page_keeps page node routed on posted hands is.0 is.1 refl (own_posted routed)

    pub post_keeps : Sound (after s a r (post page node key child))
    post_keeps =
        let P : Bool → Type 0 = λ b. has_route key node.routes ≡ b → Sound (put_actor a posted (put_page page (cond b node routed) s)) in
        (elim (has_route key node.routes) as P [
          | true ↦ λ e. same_page node refl
          | false ↦ λ e. new_page e may.space
        ]) refl
