-- Halves, routes and roots.
use Rattle.std.proofs.Common.{◌≡◌, ◌≢◌, ℕ, suc, zero, ◌+◌, ◌<◌, ◌≤◌, ◌==◌, List, [], ◌∷◌, ◌++◌, length, take, Bool, true, false, cond, not, ◌&&◌, ◌||◌, refl, sym, ap, ◌∙◌, subst, arith, Some, None, inl, inr, is_some, set, get_or-set_same, get_or-set_other, length-set}
use Rattle.std.specs.Prelude.{slice_get}
use Rattle.std.specs.List.{filter, list_any}
use Rattle.std.proofs.lemmas.Bool.{cases_eq, cases_lt, eq-eqb, eqb-true, false≢true, ne_eqb}
use Rattle.std.proofs.lemmas.Option.{none-some}
use Rattle.std.proofs.lemmas.List.{length-map}
use Rattle.std.proofs.lemmas.List.Folds.{list_any-append}
use Rattle.mi_base.specs.Prefixes.{has}
use Rattle.mi_base.specs.Sorting.{put}
use Rattle.mi_base.proofs.LiveLemmas.{length_filter}
use Rattle.mi_key.specs.declared.entries.Entry.{Entry}
use Rattle.mi_page.specs.declared.routes.Route.{Route}
use Rattle.mi_page.specs.Entries.{outlives}
use Rattle.mi_page.specs.Nodes.{IsNode, Node, item_count, lower_half, middle_key, root_node, upper_half}
use Rattle.mi_page.specs.Routes.{has_route, route_cmp}
use Rattle.mi_page.proofs.HalfLemmas.{lower_part, middle_inside}
use Rattle.mi_tree.proofs.ListLemmas.{all_any, filter_same, filter_twice}
use Rattle.mi_forest.proofs.EventLemmas.{length-put}
use Rattle.mi_entries.specs.Actors.{Actor, Owed}
use Rattle.mi_core.specs.Effects.{paid, post_route, saw, trim_leaf, trim_node}
use Rattle.mi_core.specs.Events.{Can, after, hand}
use Rattle.mi_core.specs.Events as core
use Rattle.mi_core.specs.Events.Event.{grow, post, refuse, split_page, trim, visit}
use Rattle.mi_core.specs.Kept.{Kept}
use Rattle.mi_core.specs.Pages.{node_or_fresh}
use Rattle.mi_core.specs.Refusals.Refusal.{grown}
use Rattle.mi_core.specs.State.{State, node_at}
use Rattle.mi_core.proofs.ActorLemmas.{set_there}
use Rattle.mi_core.proofs.PageLemmas.{fun_same, within}
use Rattle.mi_world.specs.declared.answers.Parted.TheVariants.{Parted as HasParted, Roomy}
use Rattle.mi_world.specs.declared.answers.Put.{Put}
use Rattle.mi_world.specs.declared.answers.Put.TheVariants as put_answer
use Rattle.mi_world.specs.Boards.{Grew, owing, paying}
use Rattle.mi_world.specs.Pages.{HasTaken, IsChildAt, PartsPage, PostAnswer, Posts}
use Rattle.mi_world.specs.View.{View}
use Rattle.mi_solo.specs.Onward.{Onward}
use Rattle.mi_solo.specs.Seeking.{EndsAfter, PointsDown, PointsRight}
use Rattle.mi_solo.specs.Viewing.{page_seen, shown_to}
use Rattle.mi_solo.proofs.CommitEvents.{full_page}
use Rattle.mi_solo.proofs.DescentLemmas.{goes_down, goes_right, is_reached, page_stands}
use Rattle.mi_solo.proofs.LaterLemmas.{linked_at, onward}
use Rattle.mi_solo.proofs.OwnLemmas.{later_own, sees_own}
use Rattle.mi_solo.proofs.QuietLemmas.{same_board, same_tries, same_work, update_by}
use Rattle.mi_solo.proofs.SectionLemmas.{apart_by}

abbrev owed_in : List Owed → ℕ → Bool
owed_in owed = λ p. list_any (λ (o : Owed). o.child == p) owed

turned : (m n : ℕ) → (m == n) ≡ (n == m)
turned m n = elim (cases_eq m n) [ inl e ↦ rw (eq-eqb m n e, eq-eqb n m (sym e)) refl | inr d ↦ rw (ne_eqb m n d, ne_eqb n m (λ e. d (sym e))) refl ]

owes_more : (owed : List Owed) (o : Owed) → owed_in (owed ++ o ∷ []) ≡ owing o.child (owed_in owed)
owes_more owed o = fun_same _ _ (λ p. list_any-append (λ (x : Owed). x.child == p) owed (o ∷ []) ∙ ap (λ b. owed_in owed p || b) (or_no (o.child == p) ∙ turned o.child p))
  where
    or_no : (b : Bool) → (b || false) ≡ b
    or_no true = refl
    or_no false = refl

owes_less : (owed : List Owed) (child : ℕ) → owed_in (paid child owed) ≡ paying child (owed_in owed)
owes_less owed child = fun_same _ _ (λ p. one p owed)
  where
    no : (b : Bool) → (b && false) ≡ false
    no true = refl
    no false = refl

    one : (p : ℕ) (os : List Owed) → owed_in (paid child os) p ≡ (owed_in os p && not (p == child))
    one p [] = refl
    one p (o ∷ os) =
        let P : Bool → Type 0 = λ b. (o.child == child) ≡ b → owed_in (cond (not b) (o ∷ paid child os) (paid child os)) p ≡ (((o.child == p) || owed_in os p) && not (p == child)) in
        (elim (o.child == child) as P [
          | true ↦ λ e. one p os ∙ elim (cases_eq p child) [
            | inl same ↦ rw (eq-eqb p child same) (no (owed_in os p) ∙ sym (no ((o.child == p) || owed_in os p)))
            | inr d ↦ rw (ne_eqb o.child p (λ same. d (sym same ∙ eqb-true o.child child e))) refl
          ]
          | false ↦ λ e. elim (cases_eq o.child p) [
            | inl same ↦ rw (eq-eqb o.child p same, ne_eqb p child (λ z. false≢true (sym e ∙ eq-eqb o.child child (same ∙ z)))) refl
            | inr d ↦ rw (ne_eqb o.child p d) (one p os)
          ]
        ]) refl

-- a test that all pass
all_pass : {X : Type 0} (p : X → Bool) (xs : List X) → length (filter p xs) ≡ length xs → filter p xs ≡ xs
all_pass p [] h = refl
all_pass p (x ∷ xs) h =
    let P : Bool → Type 0 = λ b. length (cond b (x ∷ filter p xs) (filter p xs)) ≡ length (x ∷ xs) → cond b (x ∷ filter p xs) (filter p xs) ≡ x ∷ xs in
    (elim (p x) as P [ true ↦ λ e. ap (λ ys. x ∷ ys) (all_pass p xs (omega (arith, e))) | false ↦ λ e. absurd (omega (arith, e, length_filter p xs)) ]) h

take_passes : {X : Type 0} (p : X → Bool) (n : ℕ) (xs : List X) → filter p xs ≡ xs → filter p (take n xs) ≡ take n xs
take_passes p zero xs h = refl
take_passes p (suc n) [] h = refl
take_passes p (suc n) (x ∷ xs) h =
    let P : Bool → Type 0 = λ b. cond b (x ∷ filter p xs) (filter p xs) ≡ x ∷ xs → cond b (x ∷ filter p (take n xs)) (filter p (take n xs)) ≡ x ∷ take n xs in
    (elim (p x) as P [
      | true ↦ λ e. (let rest : filter p xs ≡ xs = cc in ap (λ ys. x ∷ ys) (take_passes p n xs rest))
      | false ↦ λ e. absurd (omega (arith, ap length e, length_filter p xs))
    ]) h

-- a page that has 32 items after a trim had no more before
pub full_untrimmed : (floor : ℕ) (n : Node) → IsNode n → item_count (trim_leaf floor n) ≡ 32 → trim_leaf floor n ≡ n
full_untrimmed floor n h many =
    let P : Bool → Type 0 = λ b. (n.level == 0) ≡ b → item_count (cond b (trim_node floor n) n) ≡ 32 → cond b (trim_node floor n) n ≡ n in
    (elim (n.level == 0) as P [
      | true ↦ λ e m.
          let few : length n.entries ≤ 32 = subst (λ l. l ≤ 32) (length-map n.entries (λ (x : Entry). x.key)) h.entries.few in
          let none : length n.routes ≡ 0 = ap length (h.leaf (eqb-true n.level 0 e)) in
          ap (λ es. record n { entries = es }) (all_pass (λ e. outlives e.death floor) n.entries (omega (arith, m, none, few, length_filter (λ (e : Entry). outlives e.death floor) n.entries)))
      | false ↦ λ _ _. refl
    ]) refl many

-- the lower half of such a page has 16 items, none of them dead
lower_count : (floor f : ℕ) (n : Node) → IsNode n → item_count (trim_leaf floor n) ≡ 32 → item_count (trim_leaf floor (lower_half f n)) ≡ 16
lower_count floor f n h many =
    let full = full_untrimmed floor n h many in
    let all : item_count n ≡ 32 = ap item_count (sym full) ∙ many in
    let P : Bool → Type 0 = λ b. cond b (trim_node floor n) n ≡ n → item_count (cond b (trim_node floor (lower_half f n)) (lower_half f n)) ≡ 16 in
    (elim (n.level == 0) as P [
      | true ↦ λ e. ap (λ es. length es + length (take 16 n.routes)) (take_passes (λ (e : Entry). outlives e.death floor) 16 n.entries (ap (λ (m : Node). m.entries) e)) ∙ (lower_part n h all f).1
      | false ↦ λ _. (lower_part n h all f).1
    ]) full

pub trimmed_twice : (floor : ℕ) (n : Node) → n.level ≡ 0 → item_count (trim_leaf floor (trim_node floor n)) ≡ item_count (trim_node floor n)
trimmed_twice floor n leaf = rw leaf (ap (λ es. length es + length n.routes) (filter_twice (λ e. outlives e.death floor) (λ e. outlives e.death floor) n.entries
    ∙ filter_same _ _ n.entries (all_any (λ e. (outlives e.death floor && outlives e.death floor) ≡ outlives e.death floor) (λ e. both (outlives e.death floor)) n.entries)))
  where
    both : (b : Bool) → (b && b) ≡ b
    both true = refl
    both false = refl

module _ (s : State) (k : Kept s) (a : ℕ) (r : Actor) (there : slice_get s.actors a ≡ Some r) (going : r.ended ≡ false) where
  abbrev v : View
  v = shown_to s a r

  module _ (page : ℕ) (node : Node) (here : node_at s.pages page ≡ Some node) where
    seen_is : item_count (page_seen s r page) ≡ item_count (trim_leaf r.floor.updates node)
    seen_is = ap (λ o. item_count (trim_leaf r.floor.updates (node_or_fresh o))) here

    -- the upper half of the page goes to the fresh one
    module _ (can : Can s a r (split_page page node)) where
      abbrev t : State
      t = after s a r (split_page page node)

      abbrev qs : Actor
      qs = record r { page = page; fresh = None; owed = r.owed ++ record { level = node.level + 1; key = middle_key node; child = hand r.fresh } ∷ [] }

      abbrev ws : View
      ws = shown_to (after s a r (split_page page node)) a qs

      pub now_parted : slice_get (after s a r (split_page page node)).actors a ≡ Some (record r { page = page; fresh = None; owed = r.owed ++ record { level = node.level + 1; key = middle_key node; child = hand r.fresh } ∷ [] })
      now_parted = set_there s.actors a qs r there

      in_hand : (hand r.fresh < s.board.allotted) × (node_at s.pages (hand r.fresh) ≡ None)
      in_hand = let x = (k.sound.each a r there).fresh can.0 can.1 in subst (λ p. (p < s.board.allotted) × (node_at s.pages p ≡ None)) (sym (ap hand can.1)) x

      apart : page ≢ hand r.fresh
      apart same = none-some node (sym in_hand.1 ∙ ap (node_at s.pages) (sym same) ∙ here)

      small : hand r.fresh < length (set s.pages page (Some (lower_half (hand r.fresh) node)))
      small = (let l = in_hand.0 in let m = k.sound.pages.most in omega (arith, k.sound.pages.length_is, length-set s.pages page (Some (lower_half (hand r.fresh) node))))

      upper_there : node_at (after s a r (split_page page node)).pages (hand r.fresh) ≡ Some (upper_half node)
      upper_there = get_or-set_same (set s.pages page (Some (lower_half (hand r.fresh) node))) (hand r.fresh) (Some (upper_half node)) None small

      lower_there : node_at (after s a r (split_page page node)).pages page ≡ Some (lower_half (hand r.fresh) node)
      lower_there = get_or-set_other (set s.pages page (Some (lower_half (hand r.fresh) node))) (hand r.fresh) page (Some (upper_half node)) None apart
          ∙ get_or-set_same s.pages page (Some (lower_half (hand r.fresh) node)) None (within s.pages page node here)

      its : IsNode node
      its = page_stands s k page node here

      many : item_count node ≡ 32
      many = ap item_count (sym (full_untrimmed r.floor.updates node its can.3)) ∙ can.3

      pub parts_page : PartsPage v (shown_to (after s a r (split_page page node)) a (record r { page = page; fresh = None; owed = r.owed ++ record { level = node.level + 1; key = middle_key node; child = hand r.fresh } ∷ [] })) page (HasParted (middle_key node) (hand r.fresh))
      parts_page = record {
        later = later_own s k a r there going (split_page page node) can qs now_parted;
        work = same_work s t.pages t.actors a r r.seen page None qs.owed;
        floor = refl;
        board = same_board s t.pages t.actors a r r.seen page None qs.owed;
        tries = same_tries s t.pages t.actors a r r.seen page None qs.owed;
        page_is = refl;
        answer = (
          refl,
          owes_more r.owed _,
          ap is_some upper_there,
          ap (λ o. (node_or_fresh o).level) upper_there ∙ ap (λ o. (node_or_fresh o).level) (sym here),
          ap (λ o. (node_or_fresh o).low) upper_there,
          subst (λ n. n < middle_key node) (ap (λ o. (node_or_fresh o).low) (sym here)) (middle_inside node its many).1,
          ap (λ o. (node_or_fresh o).high) lower_there,
          ap (λ o. item_count (trim_leaf r.floor.updates (node_or_fresh o))) lower_there ∙ lower_count r.floor.updates (hand r.fresh) node its can.3,
          can.1 ∙ ap Some (sym (ap hand can.1)),
          λ _. eq-eqb (item_count (page_seen s r page)) 32 (seen_is ∙ can.3),
        );
      }

      pub parts_child : (child : ℕ) → r.fresh ≡ Some child
          → PartsPage v (shown_to (after s a r (split_page page node)) a (record r { page = page; fresh = None; owed = r.owed ++ record { level = node.level + 1; key = middle_key node; child = hand r.fresh } ∷ [] })) page (HasParted (middle_key node) child)
      parts_child child e = subst (λ f. PartsPage v ws page (HasParted (middle_key node) f)) (ap hand e) parts_page

    -- the page has room, with or without a trim
    module _ (few : item_count (trim_leaf r.floor.updates node) < 32) where
      pub parts_not : Can s a r (visit page) → PartsPage v (shown_to (after s a r (visit page)) a (record r { page = page })) page Roomy
      parts_not can = record {
        later = later_own s k a r there going (visit page) can (record r { page = page }) (set_there s.actors a (record r { page = page }) r there);
        work = same_work s s.pages (set s.actors a (record r { page = page })) a r r.seen page r.fresh r.owed;
        floor = refl;
        board = same_board s s.pages (set s.actors a (record r { page = page })) a r r.seen page r.fresh r.owed;
        tries = same_tries s s.pages (set s.actors a (record r { page = page })) a r r.seen page r.fresh r.owed;
        page_is = refl;
        answer = (refl, refl, omega (arith, seen_is), λ _. ne_eqb (item_count (page_seen s r page)) 32 (λ same. omega (arith, seen_is)));
      }

      pub parts_trimmed : Can s a r (trim page node) → PartsPage v (shown_to (after s a r (trim page node)) a (record r { page = page })) page Roomy
      parts_trimmed can =
          let new : node_at (set s.pages page (Some (trim_node r.floor.updates node))) page ≡ Some (trim_node r.floor.updates node) = get_or-set_same s.pages page (Some (trim_node r.floor.updates node)) None (within s.pages page node here) in
          let count : item_count (page_seen (after s a r (trim page node)) (record r { page = page }) page) ≡ item_count (trim_node r.floor.updates node) =
          ap (λ o. item_count (trim_leaf r.floor.updates (node_or_fresh o))) new ∙ trimmed_twice r.floor.updates node can.level in
          let same : item_count (trim_leaf r.floor.updates node) ≡ item_count (trim_node r.floor.updates node) = (rw can.level refl) in
          record {
            later = later_own s k a r there going (trim page node) can (record r { page = page }) (set_there s.actors a (record r { page = page }) r there);
            work = same_work s (after s a r (trim page node)).pages (set s.actors a (record r { page = page })) a r r.seen page r.fresh r.owed;
            floor = refl;
            board = same_board s (after s a r (trim page node)).pages (set s.actors a (record r { page = page })) a r r.seen page r.fresh r.owed;
            tries = same_tries s (after s a r (trim page node)).pages (set s.actors a (record r { page = page })) a r r.seen page r.fresh r.owed;
            page_is = refl;
            answer = (refl, refl, omega (arith, count, same), λ _. ne_eqb (item_count (page_seen s r page)) 32 (λ e. omega (arith, seen_is)));
          }

    -- a route
    module _ (level key child : ℕ) where
      module _ (can : Can s a r (visit page)) where
        abbrev qv : Actor
        qv = record r { page = page }

        abbrev tv : State
        tv = after s a r (visit page)

        high_is : (node_or_fresh (node_at s.pages page)).high ≡ node.high
        high_is = ap (λ o. (node_or_fresh o).high) here

        on : Onward s (after s a r (visit page))
        on = onward s k a r there (visit page) can

        posts : (result : Put) → PostAnswer v (shown_to (after s a r (visit page)) a (record r { page = page })) page level key child result → Posts v (shown_to (after s a r (visit page)) a (record r { page = page })) page level key child result
        posts result answer = record {
          later = later_own s k a r there going (visit page) can qv (set_there s.actors a qv r there);
          work = same_work s s.pages (set s.actors a qv) a r r.seen page r.fresh r.owed;
          floor = refl;
          fresh = refl;
          board = same_board s s.pages (set s.actors a qv) a r r.seen page r.fresh r.owed;
          tries = same_tries s s.pages (set s.actors a qv) a r r.seen page r.fresh r.owed;
          page_is = refl;
          answer = answer;
        }

        pub post_down : (next : ℕ) → PointsDown node level key next → Posts v (shown_to (after s a r (visit page)) a (record r { page = page })) page level key child (put_answer.Down next)
        post_down next p = posts (put_answer.Down next) (refl, goes_down s k tv on a r qv page node here high_is level key next p)

        pub post_right : (next : ℕ) → PointsRight node level key next → Posts v (shown_to (after s a r (visit page)) a (record r { page = page })) page level key child (put_answer.Right next)
        post_right next p = posts (put_answer.Right next) (refl, goes_right s k tv on a r qv page node here high_is level key next p)

        pub post_full : EndsAfter node level key → item_count (trim_leaf r.floor.updates node) ≡ 32 → Posts v (shown_to (after s a r (visit page)) a (record r { page = page })) page level key child put_answer.PageFull
        post_full e many = posts put_answer.PageFull (refl, is_reached s k tv on a r qv page node here high_is level key e, full_page s k a r page r.seen (record { node = node; there = here; items = many }))

      module _ (can : Can s a r (post page node key child)) (at : node.level ≡ level) where
        abbrev tp : State
        tp = after s a r (post page node key child)

        abbrev qp : Actor
        qp = record r { page = page; owed = paid child r.owed }

        posted : node_at (set s.pages page (Some (post_route key child node))) page ≡ Some (post_route key child node)
        posted = get_or-set_same s.pages page (Some (post_route key child node)) None (within s.pages page node here)

        above : 0 < node.level
        above = (let l = can.1.level in omega arith)

        its_node : IsNode node
        its_node = page_stands s k page node here

        none : length node.entries ≡ 0
        none = ap length (its_node.inner above)

        -- a page above the leaf pages isn't trimmed
        whole : (n : Node) → n.level ≡ node.level → item_count (trim_leaf r.floor.updates n) ≡ item_count n
        whole n same = rw (ne_eqb n.level 0 (λ z. omega (arith, same))) refl

        post_level : (post_route key child node).level ≡ node.level
        post_level =
            let P : Bool → Type 0 = λ b. (cond b node (record node { routes = put route_cmp (record { key = key; child = child }) node.routes })).level ≡ node.level in
            elim (has_route key node.routes) as P [ true ↦ refl | false ↦ refl ]

        post_high : (post_route key child node).high ≡ node.high
        post_high =
            let P : Bool → Type 0 = λ b. (cond b node (record node { routes = put route_cmp (record { key = key; child = child }) node.routes })).high ≡ node.high in
            elim (has_route key node.routes) as P [ true ↦ refl | false ↦ refl ]

        some_route : (rs : List Route) → has_route key rs ≡ true → 1 ≤ length rs
        some_route [] e = absurd (false≢true e)
        some_route (x ∷ rs) e = omega arith

        counted : (1 ≤ item_count (post_route key child node)) × (item_count (post_route key child node) ≤ 32)
        counted =
            let space = can.1.space in
            let P : Bool → Type 0 = λ b. has_route key node.routes ≡ b → (1 ≤ item_count (cond b node (record node { routes = put route_cmp (record { key = key; child = child }) node.routes })))
            × (item_count (cond b node (record node { routes = put route_cmp (record { key = key; child = child }) node.routes })) ≤ 32) in
            (elim (has_route key node.routes) as P [
              | true ↦ λ e. (omega (arith, some_route node.routes e), omega (arith, none))
              | false ↦ λ e. (omega (arith, length-put route_cmp (record { key = key; child = child }) node.routes), omega (arith, none, length-put route_cmp (record { key = key; child = child }) node.routes))
            ]) refl

        count_after : item_count (page_seen (after s a r (post page node key child)) qp page) ≡ item_count (post_route key child node)
        count_after = ap (λ o. item_count (trim_leaf r.floor.updates (node_or_fresh o))) posted ∙ whole (post_route key child node) post_level

        taken : HasTaken v (shown_to (after s a r (post page node key child)) a (record r { page = page; owed = paid child r.owed })) page
        taken = let c = counted in let space = can.1.space in record {
          some = omega (arith, count_after, c.0);
          few = omega (arith, count_after, c.1);
          was_roomy = λ _. ne_eqb (item_count (page_seen s r page)) 32 (λ same. omega (arith, seen_is, whole node refl, none));
        }

        pub post_done : Posts v (shown_to (after s a r (post page node key child)) a (record r { page = page; owed = paid child r.owed })) page level key child put_answer.Done
        post_done = record {
          later = later_own s k a r there going (post page node key child) can qp (set_there s.actors a qp r there);
          work = same_work s tp.pages tp.actors a r r.seen page r.fresh qp.owed;
          floor = refl;
          fresh = refl;
          board = same_board s tp.pages tp.actors a r r.seen page r.fresh qp.owed;
          tries = same_tries s tp.pages tp.actors a r r.seen page r.fresh qp.owed;
          page_is = refl;
          answer = (
            owes_less r.owed child,
            is_reached s k tp (onward s k a r there (post page node key child) can) a r qp page node here (ap (λ o. (node_or_fresh o).high) posted ∙ post_high) level key (record { level = at; under = can.1.inside.below_high }),
            taken,
          );
        }

  -- the fresh page is the new root
  module _ (level key child : ℕ) where
    module _ (can : Can s a r (grow level key child)) where
      abbrev tg : State
      tg = after s a r (grow level key child)

      abbrev qg : Actor
      qg = record (saw s.board r) { fresh = None; owed = paid child r.owed }

      pub now_grown : slice_get (after s a r (grow level key child)).actors a ≡ Some (record (saw s.board r) { fresh = None; owed = paid child r.owed })
      now_grown = set_there s.actors a qg r there

      -- the page that was noted is linked, and so it isn't the one in hand
      noted_apart : r.page ≢ hand r.fresh
      noted_apart same =
          let n = k.noted a r there in
          none-some n.0 (sym ((k.sound.each a r there).fresh can.0 can.1).1 ∙ ap (node_at s.pages) (sym (same ∙ ap hand can.1)) ∙ n.1)

      noted_there : node_at (set s.pages (hand r.fresh) (Some (root_node level s.board.root key child))) r.page ≡ node_at s.pages r.page
      noted_there = get_or-set_other s.pages (hand r.fresh) r.page (Some (root_node level s.board.root key child)) None noted_apart

      pub grows : Grew v (shown_to (after s a r (grow level key child)) a (record (saw s.board r) { fresh = None; owed = paid child r.owed })) level child true
      grows = record {
        later = later_own s k a r there going (grow level key child) can qg now_grown;
        lacked = refl;
        told = refl;
        work = record { update = update_by s tg a r qg refl refl refl refl; leaf = record { leaf = refl; wanted = refl }; apart = apart_by s tg a r qg refl refl refl refl refl refl };
        floor = refl;
        board = sees_own s k a r there going (grow level key child) can qg now_grown;
        page = record {
          page = refl;
          high = ap (λ o. (node_or_fresh o).high) noted_there;
          items = λ _. ap (λ o. item_count (trim_leaf r.floor.updates (node_or_fresh o))) noted_there;
        };
        tries = record { tried = refl; found = refl };
        answer = (refl, (let l = can.2 in omega arith), refl, owes_less r.owed child, can.1 ∙ ap Some (sym (ap hand can.1)));
      }

    pub grows_not : Can s a r (refuse (grown level)) → Grew v (shown_to (after s a r (refuse (grown level))) a (saw s.board r)) level child false
    grows_not can = record {
      later = later_own s k a r there going (refuse (grown level)) can (saw s.board r) (set_there s.actors a (saw s.board r) r there);
      lacked = refl;
      told = refl;
      work = same_work s s.pages (set s.actors a (saw s.board r)) a r (length s.board.log) r.page r.fresh r.owed;
      floor = refl;
      board = sees_own s k a r there going (refuse (grown level)) can (saw s.board r) (set_there s.actors a (saw s.board r) r there);
      page = record { page = refl; high = refl; items = λ _. refl };
      tries = same_tries s s.pages (set s.actors a (saw s.board r)) a r (length s.board.log) r.page r.fresh r.owed;
      answer = ((λ same. omega (arith, same, can)), refl, refl, can);
    }

-- no linked page is higher than the root
pub not_higher : (s : State) → Kept s → (page : ℕ) (node : Node) → node_at s.pages page ≡ Some node → node.level ≤ s.board.height
not_higher s k page node here = elim (cases_lt s.board.height node.level) [
  | inl lt ↦ absurd (false≢true (ap (has page) (sym (k.sound.pages.forest.top node.level (omega (arith, k.sound.pages.height))))
      ∙ ap (λ o. has page (k.sound.chain (node_or_fresh o).level)) (sym here) ∙ k.sound.pages.linked page node here))
  | inr le ↦ le
]

-- where a child's route may stand, and the root isn't of the level below, it is of this level at least
module _ (s : State) (a : ℕ) (r : Actor) (level key child : ℕ) (i : IsChildAt (shown_to s a r) level key child) where
  below : (n : Node) × (node_at s.pages child ≡ Some n) × (n.level + 1 ≡ level) × (n.low ≡ key)
  below =
      let n = linked_at (node_at s.pages child) i.named in
      (n.0, n.1, ap (λ o. (node_or_fresh o).level + 1) (sym n.1) ∙ i.level_is, ap (λ o. (node_or_fresh o).low) (sym n.1) ∙ i.low_is)

  pub can_grow : (p : ℕ) → r.fresh ≡ Some p → s.board.height + 1 ≡ level → Can s a r (grow level key child)
  can_grow p in_hand up = let n = below in (p, in_hand, up, i.later_key, n.0, n.1, (let l = n.2 in omega arith), n.3)

  pub grown_already : Kept s → s.board.height + 1 ≢ level → level ≤ s.board.height
  grown_already k other = let l = below.2 in omega (arith, not_higher s k child below.0 below.1)

  pub can_post : (page : ℕ) (node : Node) → node_at s.pages page ≡ Some node → (shown_to s a r).low page ≤ key → EndsAfter node level key → length node.routes < 32 → core.MayPost s node key child
  can_post page node here low e space = record {
    inside = record { from_low = omega (arith, ap (λ o. (node_or_fresh o).low) here, low); below_high = e.under };
    space = space;
    below = below.0;
    there = below.1;
    level = below.2 ∙ sym e.level;
    low = below.3;
  }
