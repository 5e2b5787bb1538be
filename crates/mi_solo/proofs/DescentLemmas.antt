-- Where a section of a page leads on.
use Rattle.std.proofs.Common.{◌≡◌, ℕ, ◌+◌, ◌<◌, ◌≤◌, ◌^◌, true, IsTrue, refl, sym, ap, ◌∙◌, subst, arith, Option, Some, None, is_some}
use Rattle.std.specs.List.{AllByRecursion}
use Rattle.std.proofs.lemmas.Bool.{ltb-true}
use Rattle.std.proofs.lemmas.Option.{none-some, same_Some}
use Rattle.mi_page.specs.Keys.{is_below}
use Rattle.mi_base.proofs.SortingLemmas.{filter_keeps}
use Rattle.mi_key.specs.declared.entries.Entry.{Entry}
use Rattle.mi_page.specs.Nodes.{IsNode, Node, in_range}
use Rattle.mi_page.specs.Routes.{IsChild}
use Rattle.mi_forest.specs.Forests.{Forest, IsForest, IsLinked, MovesDown, MovesRight, all_entries}
use Rattle.mi_forest.proofs.FlatLemmas.{leaf_entries}
use Rattle.mi_forest.proofs.MoveLemmas.{last_of, move_down, move_right, stands}
use Rattle.mi_entries.specs.Actors.{Actor}
use Rattle.mi_core.specs.Kept.{Kept}
use Rattle.mi_core.specs.Pages.{forest_of, node_or_fresh}
use Rattle.mi_core.specs.State.{State, node_at}
use Rattle.mi_world.specs.Pages.{GoesDown, GoesRight, IsBelow, IsReached, ReadsTo}
use Rattle.mi_world.specs.View.{View}
use Rattle.mi_solo.specs.Onward.{Onward}
use Rattle.mi_solo.specs.Seeking.{EndsAfter, EndsBefore, HasSibling, PointsDown, PointsRight, ReadsOn, ShowsPage}
use Rattle.mi_solo.specs.Viewing.{shown_to}

below_is : (o : Option ℕ) (key : ℕ) → is_below o key ≡ true → IsBelow key o
below_is None key h = tt
below_is (Some high) key h = ltb-true key high h

pub shows_page : (s : State) (a : ℕ) (r : Actor) (page : ℕ) (node : Node) → node_at s.pages page ≡ Some node → ShowsPage (shown_to s a r) page node
shows_page s a r page node here = record { named = ap is_some here; level = ap (λ o. (node_or_fresh o).level) here; low = ap (λ o. (node_or_fresh o).low) here }

-- a page of a state
module _ (s : State) (k : Kept s) (page : ℕ) (node : Node) (here : node_at s.pages page ≡ Some node) where
  abbrev pub f : Forest
  f = forest_of s.board s.pages s.actors k.sound.chain

  pub node_is : node_or_fresh (node_at s.pages page) ≡ node
  node_is = ap node_or_fresh here

  pub linked : IsLinked (forest_of s.board s.pages s.actors k.sound.chain) page
  linked = k.sound.pages.linked page node here

  pub page_stands : IsNode node
  page_stands = subst IsNode node_is (stands f k.sound.pages.forest page linked).stands.page

  -- what holds of all entries holds of those of a leaf page
  pub page_in : node.level ≡ 0 → (P : Entry → Type 0) → AllByRecursion P (all_entries (forest_of s.board s.pages s.actors k.sound.chain)) → AllByRecursion P node.entries
  page_in leaf P h = subst (λ (n : Node). AllByRecursion P n.entries) node_is
      (subst (AllByRecursion P) (leaf_entries f k.sound.pages.forest page linked (ap (λ (n : Node). n.level) node_is ∙ leaf)) (filter_keeps P (λ e. in_range (f.node page) e.key) (all_entries f) h))

  -- a page with an end has a right sibling
  pub has_sibling : HasSibling node
  has_sibling high is = go (node.right) refl
    where
      go : (o : Option ℕ) → node.right ≡ o → (n : ℕ) × (node.right ≡ Some n)
      go None e = absurd (none-some high (sym (last_of f k.sound.pages.forest page linked (ap (λ (n : Node). n.right) node_is ∙ e)) ∙ ap (λ (n : Node). n.high) node_is ∙ is))
      go (Some n) e = (n, e)

-- two states, and the page of which the actor notes the high key
module _ (s : State) (k : Kept s) (t : State) (o : Onward s t)
    (a : ℕ) (r q : Actor) (page : ℕ) (node : Node) (here : node_at s.pages page ≡ Some node) (high_is : (shown_to t a q).high ≡ node.high) where
  abbrev g : Forest
  g = forest_of s.board s.pages s.actors k.sound.chain

  abbrev v : View
  v = shown_to s a r

  abbrev w : View
  w = shown_to t a q

  is : g.node page ≡ node
  is = ap node_or_fresh here

  its : IsLinked g page
  its = k.sound.pages.linked page node here

  ok : IsForest g
  ok = k.sound.pages.forest

  level_is : v.level page ≡ node.level
  level_is = ap (λ (n : Node). n.level) is

  -- a linked page is as before
  still : (p : ℕ) → IsLinked g p → IsTrue (w.named p) × (w.level p ≡ v.level p) × (w.low p ≡ v.low p)
  still p l =
      let z = k.sound.pages.there p l in
      let y = o.later.pages p z.0 z.1 in (
        ap is_some y.there,
        ap (λ x. (node_or_fresh x).level) y.there ∙ y.level ∙ ap (λ x. (node_or_fresh x).level) (sym z.1),
        ap (λ x. (node_or_fresh x).low) y.there ∙ y.low ∙ ap (λ x. (node_or_fresh x).low) (sym z.1),
      )

  pub goes_down : (sought key child : ℕ) → PointsDown node sought key child → GoesDown v w page child sought key
  goes_down sought key child c =
      let d : MovesDown g page key child = move_down g ok page key child its (subst (λ (n : Node). IsChild key n.routes child) (sym is) c.route) in
      let x = still child d.linked in
      let above = c.above in
      let reached = d.reached in
      let low = x.2 in
      record { above = omega (arith, level_is); named = x.0; level_is = ap (λ l. l + 1) x.1 ∙ d.height; low_is = omega arith }

  -- the right sibling of a page that ends before a key
  after_end : (key next : ℕ) → EndsBefore node key next
      → IsTrue (w.named next) × (w.level next ≡ v.level page) × (w.low next ≤ key) × (v.low page < w.low next) × (w.low next < 2 ^ 128) × (w.high ≡ Some (w.low next))
  after_end key next e =
      let d : MovesRight g page key = move_right g ok page key its (ap (λ (n : Node). is_below n.high key) is ∙ e.past) in
      let same : d.to ≡ next = same_Some d.to next (sym d.right ∙ ap (λ (n : Node). n.right) is ∙ e.right) in
      let x = still d.to d.follows.linked in
      let high : node.high ≡ Some (w.low d.to) = ap (λ (n : Node). n.high) (sym is) ∙ d.follows.high ∙ ap Some (sym x.2) in
      let far = d.follows.farther in
      let reached = d.reached in
      let low = x.2 in
      subst (λ n. IsTrue (w.named n) × (w.level n ≡ v.level page) × (w.low n ≤ key) × (v.low page < w.low n) × (w.low n < 2 ^ 128) × (w.high ≡ Some (w.low n))) same
      (x.0, x.1 ∙ d.follows.height, omega arith, omega arith, e.small (w.low d.to) high, high_is ∙ high)

  pub goes_right : (sought key next : ℕ) → PointsRight node sought key next → GoesRight v w page next sought key
  goes_right sought key next p =
      let x = after_end key next p.ends in
      record { reached = level_is ∙ p.level; named = x.0; level_is = x.1; low_is = x.2; after = x.3; small = x.4; high_is = x.5 }

  pub is_reached : (sought key : ℕ) → EndsAfter node sought key → IsReached v w page sought key
  is_reached sought key e = record { reached = level_is ∙ e.level; below_high = subst (IsBelow key) (sym high_is) (below_is node.high key e.under) }

  pub reads_to : (to : ℕ) (next : Option ℕ) → node.level ≡ 0 → ReadsOn node to next → ReadsTo v w page to next
  reads_to to None leaf under = subst (IsBelow to) (sym high_is) (below_is node.high to under)
  reads_to to (Some p) leaf e = let x = after_end to p e in (x.0, x.1 ∙ level_is ∙ leaf, x.2, x.3, x.4, x.5)
