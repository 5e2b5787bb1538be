-- Which pages a value in hand names.
use Rattle.std.proofs.Common.{◌≡◌, ◌≤◌, ℕ, ◌+◌, List, [], ◌∷◌, Option, Some, None, true, sym, ap, ◌∙◌, subst, arith}
use Rattle.std.specs.Prelude.{slice_get}
use Rattle.std.specs.List.{AllByRecursion}
use Rattle.mi_page.specs.Nodes.{Node}
use Rattle.mi_page.specs.declared.routes.Route.{Route}
use Rattle.mi_base.specs.Prefixes.{has}
use Rattle.mi_forest.specs.Forests.{Forest, IsChain, IsLinked, LeadsDown, head, head_low}
use Rattle.mi_core.specs.Sound.{Sound}
use Rattle.mi_core.specs.Pages.{forest_of, node_or_fresh}
use Rattle.mi_core.specs.State.{State, node_at}
use Rattle.mi_tree.proofs.ListLemmas.{all_get}
use Rattle.mi_forest.proofs.BoundLemmas.{height_bound}
use Rattle.mi_forest.proofs.MoveLemmas.{first_has, level_in, linked_in, stands}
use Rattle.mi_forest.proofs.NumberLemmas.{first_in}
use Rattle.mi_core.specs.Named.{IsNamed}

module _ (s : State) (k : Sound s) where
  abbrev f : Forest
  f = forest_of s.board s.pages s.actors k.chain

  -- a linked page, as one is told of it
  told_of : (p level low : ℕ) → IsLinked f p → (f.node p).level ≡ level → (f.node p).low ≡ low → IsNamed s.pages (record { page = p; level = level; low = low })
  told_of p level low linked height start = let t = k.pages.there p linked in record {
    node = t.0;
    there = t.1;
    level = ap (λ (o : Option Node). (node_or_fresh o).level) (sym t.1) ∙ height;
    low = ap (λ (o : Option Node). (node_or_fresh o).low) (sym t.1) ∙ start;
  }

  -- the board names the root
  pub root_named : IsNamed s.pages (record { page = s.board.root; level = s.board.height; low = 0 })
  root_named = told_of s.board.root s.board.height 0 (is_first (f.chain (f.node s.board.root).level) k.pages.forest.root) k.pages.height (k.pages.forest.lowest (f.node s.board.root).level s.board.root k.pages.forest.root)
    where
      is_first : (ns : List ℕ) → head ns ≡ Some s.board.root → has s.board.root ns ≡ true
      is_first [] e = absurd cc
      is_first (n ∷ ns) e = let same : n ≡ s.board.root = cc in subst (λ (m : ℕ). has s.board.root (m ∷ ns) ≡ true) (sym same) (first_has s.board.root ns)

  -- a page names its right sibling, and each child
  pub right_named : (p q high : ℕ) (n : Node) → node_at s.pages p ≡ Some n → n.right ≡ Some q → n.high ≡ Some high → IsNamed s.pages (record { page = q; level = n.level; low = high })
  right_named p q high n is right up =
      let here : f.node p ≡ n = ap node_or_fresh is in
      let x = stands f k.pages.forest p (k.pages.linked p n is) in
      go x.rest x.stands.right x.stands.high x.chain x.within here
    where
      go : (rest : List ℕ) → (f.node p).right ≡ head rest → (f.node p).high ≡ head_low f.node rest → IsChain f.node (f.node p).level rest
          → ((m : ℕ) → has m rest ≡ true → has m (f.chain (f.node p).level) ≡ true) → f.node p ≡ n → IsNamed s.pages (record { page = q; level = n.level; low = high })
      go [] r h c w here = let z : Some q ≡ None = sym right ∙ ap (λ (x : Node). x.right) (sym here) ∙ r in absurd cc
      go (m ∷ ms) r h c w here =
          let z : Some q ≡ Some m = sym right ∙ ap (λ (x : Node). x.right) (sym here) ∙ r in let same : m ≡ q = cc in
          let y : Some high ≡ Some (f.node m).low = sym up ∙ ap (λ (x : Node). x.high) (sym here) ∙ h in let low : (f.node m).low ≡ high = cc in
          subst (λ (j : ℕ). IsNamed s.pages (record { page = j; level = n.level; low = high })) same
          (told_of m n.level high (linked_in f k.pages.forest (f.node p).level m (w m (first_has m ms))) (c.0.height ∙ ap (λ (x : Node). x.level) here) low)

  pub child_named : (p i : ℕ) (n : Node) (x : Route) (level : ℕ) → node_at s.pages p ≡ Some n → slice_get n.routes i ≡ Some x → level + 1 ≡ n.level → IsNamed s.pages (record { page = x.child; level = level; low = x.key })
  child_named p i n x level is at height =
      let here : f.node p ≡ n = ap node_or_fresh is in
      let all : AllByRecursion (LeadsDown f n.level) n.routes = subst (λ (m : Node). AllByRecursion (LeadsDown f m.level) m.routes) here (k.pages.forest.routes p (k.pages.linked p n is)) in
      let l = all_get (LeadsDown f n.level) n.routes i x all at in
      told_of x.child level x.key l.linked (let h = l.height in omega arith) l.low

  -- page 0 is a leaf page from the lowest key on
  pub first_page : (n : Node) × (node_at s.pages 0 ≡ Some n) × (n.level ≡ 0) × (n.low ≡ 0)
  first_page =
      let within = first_in 0 (f.chain 0) k.pages.forest.first in
      let level : (f.node 0).level ≡ 0 = level_in f.node 0 0 (f.chain 0) (k.pages.forest.chains 0) within in
      let t = k.pages.there 0 (ap (λ l. has 0 (f.chain l)) level ∙ within) in
      let is : f.node 0 ≡ t.0 = ap node_or_fresh t.1 in
      (t.0, t.1, ap (λ (x : Node). x.level) (sym is) ∙ level, ap (λ (x : Node). x.low) (sym is) ∙ k.pages.forest.lowest 0 0 k.pages.forest.first)

  pub few_levels : s.board.height ≤ 5
  few_levels =
      let bound = height_bound f k.pages.forest (let m = k.pages.most in let u = k.limits.pages.1 in omega arith) in
      let same = k.pages.height in
      omega arith
