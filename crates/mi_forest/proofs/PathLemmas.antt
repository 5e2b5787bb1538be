-- The way to a key, where all routes are there.
use Rattle.std.proofs.Common.{◌≡◌, ℕ, ◌+◌, ◌≤◌, List, [], ◌∷◌, Bool, true, false, ◌||◌, nat_lt, Option, Some, None, IsTrue, refl, sym, ap, ◌∙◌, subst, arith, inl, inr}
use Rattle.std.specs.List.{AllByRecursion}
use Rattle.std.proofs.lemmas.Bool.{cases_eq, cases_lt, false≢true}
use Rattle.std.proofs.lemmas.Bool.Decides.{nat_tests}
use Rattle.mi_base.specs.Prefixes.{has}
use Rattle.mi_page.specs.declared.routes.Route.{Route}
use Rattle.mi_page.specs.Keys.{IsInside, is_below}
use Rattle.mi_page.specs.Routes.{IsChild}
use Rattle.mi_page.specs.Nodes.{Node}
use Rattle.mi_forest.specs.Forests.{Forest, IsForest, IsLinked, IsChain, LeadsDown, MovesRight, MovesDown}
use Rattle.mi_forest.specs.Paths.{children_of, IsRouted, IsComplete, IsOnWay, IsPath, Root, Child}
use Rattle.mi_forest.proofs.ChainLemmas.{below_less, past_lows, all_has}
use Rattle.mi_forest.proofs.ListLemmas.{all_two}
use Rattle.mi_tree.proofs.ListLemmas.{all_from_map, all_get}
use Rattle.mi_forest.proofs.MoveLemmas.{stands, move_right, move_down}
use Rattle.mi_forest.proofs.NumberLemmas.{other, first_in}
use Rattle.mi_forest.proofs.HandLemmas.{bool_cases}

-- two pages of a chain that have a key in their ranges are one
pub same_page : (node : ℕ → Node) (level : ℕ) (ns : List ℕ) → IsChain node level ns → (m n key : ℕ) → has m ns ≡ true → has n ns ≡ true
    → IsInside (node m).low (node m).high key → IsInside (node n).low (node n).high key → m ≡ n
same_page node level [] c m n key a b i j = absurd (false≢true a)
same_page node level (x ∷ xs) c m n key a b i j = elim (cases_eq x m) [
  | inl e ↦ elim (cases_eq x n) [
    | inl k ↦ sym e ∙ k
    | inr o ↦ absurd (apart n (without (other x n o) b) (subst (λ (y : ℕ). IsInside (node y).low (node y).high key) (sym e) i) j)
  ]
  | inr o ↦ elim (cases_eq x n) [
    | inl k ↦ absurd (apart m (without (other x m o) a) (subst (λ (y : ℕ). IsInside (node y).low (node y).high key) (sym k) j) i)
    | inr k ↦ same_page node level xs c.1 m n key (without (other x m o) a) (without (other x n k) b) i j
  ]
]
  where
    without : {b d : Bool} → b ≡ false → (b || d) ≡ true → d ≡ true
    without {d = d} e t = sym (ap (λ y. y || d) e) ∙ t

    -- the first page and a later one have no key in common
    apart : (y : ℕ) → has y xs ≡ true → IsInside (node x).low (node x).high key → IsInside (node y).low (node y).high key → ⊥
    apart y t k l =
        let past = all_has (λ z. is_below (node x).high (node z).low ≡ false) y xs (past_lows node level x xs c) t in
        let lt = below_less (node x).high key (node y).low k.below_high past in
        let from = l.from_low in
        omega arith

-- a route to a child
record RouteTo (P : Route → Type 0) (n : ℕ) : Type 0 where
  pub route : Route
  pub fact : P route
  pub child : route.child ≡ n

route_to : (P : Route → Type 0) (n : ℕ) (rs : List Route) → AllByRecursion P rs → has n (children_of rs) ≡ true → RouteTo P n
route_to P n [] a h = absurd (false≢true h)
route_to P n (r ∷ rs) a h = elim (cases_eq r.child n) [
  | inl e ↦ record { route = r; fact = a.0; child = e }
  | inr o ↦ route_to P n rs a.1 (sym (ap (λ b. b || has n (children_of rs)) (other r.child n o)) ∙ h)
]

-- what is below a key in a range is below its end
pub below_down : (high : Option ℕ) (j k : ℕ) → j ≤ k → IsTrue (is_below high k) → IsTrue (is_below high j)
below_down None j k le b = refl
below_down (Some h) j k le b = let lt : nat_lt k h ≡ true = b in grind (arith, nat_tests)

-- no linked page is above the root
pub below_root : (f : Forest) → IsForest f → (n : ℕ) → IsLinked f n → (f.node n).level ≤ (f.node f.root).level
below_root f h n l = elim (cases_lt (f.node f.root).level (f.node n).level) [
  | inl high ↦ absurd (false≢true (ap (has n) (sym (h.top (f.node n).level high)) ∙ l))
  | inr low ↦ low
]

module _ (f : Forest) (h : IsForest f) (complete : IsComplete f) (key : ℕ) where
  root_linked : IsLinked f f.root
  root_linked = first_in f.root (f.chain (f.node f.root).level) h.root

  pub root_on_way : IsOnWay f key f.root
  root_on_way = record {
    linked = root_linked;
    inside = record { from_low = (let low = h.lowest (f.node f.root).level f.root h.root in omega arith); below_high = all_below };
  }
    where
      all_below : IsTrue (is_below (f.node f.root).high key)
      all_below = elim (bool_cases (is_below (f.node f.root).high key)) [
        | inl t ↦ t
        | inr past ↦
            let r = move_right f h f.root key root_linked past in
            let some = r.right in
            let none = complete.alone in
            absurd (cc)
      ]

  not_above : (n : ℕ) → IsLinked f n → (f.node n).level ≤ (f.node f.root).level
  not_above = below_root f h

  inside_of : (m : ℕ) → IsLinked f m → AllByRecursion (λ (r : Route). IsInside (f.node m).low (f.node m).high r.key) (f.node m).routes
  inside_of m l = all_from_map (λ (r : Route). r.key) (IsInside (f.node m).low (f.node m).high) (f.node m).routes (stands f h m l).stands.page.routes.inside

  -- a child that ends below the key would have a sibling of which its parent has a later route
  module _ (n child : ℕ) (w : IsOnWay f key n) (c : IsChild key (f.node n).routes child) (past : is_below (f.node child).high key ≡ false) where
    leads : LeadsDown f (f.node n).level c.route
    leads = all_get (LeadsDown f (f.node n).level) (f.node n).routes c.place c.route (h.routes n w.linked) c.there

    down : MovesDown f n key child
    down = move_down f h n key child w.linked c

    sibling : MovesRight f child key
    sibling = move_right f h child key down.linked past

    routed : IsRouted f sibling.to
    routed =
        let up = not_above n w.linked in
        let height = sibling.follows.height in
        let lower = down.height in
        let far = sibling.follows.farther in
        complete.routed sibling.to sibling.follows.linked (omega arith) (omega arith)

    level_is : (f.node routed.parent).level ≡ (f.node n).level
    level_is = routed.height ∙ ap (λ k. k + 1) sibling.follows.height ∙ down.height

    -- a route to the sibling has its low key
    key_of : (m : ℕ) (r : Route) → LeadsDown f (f.node m).level r → r.child ≡ sibling.to → r.key ≡ (f.node sibling.to).low
    key_of m r l e = sym l.low ∙ ap (λ k. (f.node k).low) e

    there : IsInside (f.node routed.parent).low (f.node routed.parent).high (f.node sibling.to).low
    there =
        let P : Route → Type 0 = λ x. IsInside (f.node routed.parent).low (f.node routed.parent).high x.key × LeadsDown f (f.node routed.parent).level x in
        let t = route_to P sibling.to (f.node routed.parent).routes
        (all_two (λ x. IsInside (f.node routed.parent).low (f.node routed.parent).high x.key) (LeadsDown f (f.node routed.parent).level) P (λ x i l. (i, l))
        (f.node routed.parent).routes (inside_of routed.parent routed.linked) (h.routes routed.parent routed.linked)) routed.child in
        subst (IsInside (f.node routed.parent).low (f.node routed.parent).high) (key_of routed.parent t.route t.fact.1 t.child) t.fact.0

    child_low : (f.node child).low ≡ c.route.key
    child_low = ap (λ k. (f.node k).low) c.is ∙ leads.low

    here : IsInside (f.node n).low (f.node n).high (f.node sibling.to).low
    here =
        let own = all_get (λ (x : Route). IsInside (f.node n).low (f.node n).high x.key) (f.node n).routes c.place c.route (inside_of n w.linked) c.there in
        let low = own.from_low in
        let far = sibling.follows.farther in
        let is = child_low in
        record { from_low = omega arith; below_high = below_down (f.node n).high (f.node sibling.to).low key sibling.reached w.inside.below_high }

    same : routed.parent ≡ n
    same = same_page f.node (f.node n).level (f.chain (f.node n).level) (h.chains (f.node n).level) routed.parent n (f.node sibling.to).low
        (subst (λ (l : ℕ). has routed.parent (f.chain l) ≡ true) level_is routed.linked) w.linked there here

    no_right : ⊥
    no_right =
        let P : Route → Type 0 = λ x. (x.key ≤ key → x.key ≤ c.route.key) × LeadsDown f (f.node n).level x in
        let u = route_to P sibling.to (f.node n).routes
        (all_two (λ x. x.key ≤ key → x.key ≤ c.route.key) (LeadsDown f (f.node n).level) P (λ x i l. (i, l)) (f.node n).routes c.greatest (h.routes n w.linked))
        (subst (λ (k : ℕ). has sibling.to (children_of (f.node k).routes) ≡ true) same routed.child) in
        let low = key_of n u.route u.fact.1 u.child in
        let far = sibling.follows.farther in
        let is = child_low in
        let reached = sibling.reached in
        let le = u.fact.0 (omega arith) in
        omega arith

  pub child_on_way : (n child : ℕ) → IsOnWay f key n → IsChild key (f.node n).routes child → IsOnWay f key child
  child_on_way n child w c =
      let d = move_down f h n key child w.linked c in
      record { linked = d.linked; inside = record { from_low = d.reached; below_high = elim (bool_cases (is_below (f.node child).high key)) [ inl t ↦ t | inr past ↦ absurd (no_right n child w c past) ] } }

  -- no page on the path of a key is left to the right
  pub on_path : (n : ℕ) → IsPath f key n → IsOnWay f key n
  on_path _ Root = root_on_way
  on_path _ (Child m c q above child) = child_on_way m c (on_path m q) child
