-- Where all routes are there, the child that a page gives for a key has the key in its range.
use Rattle.std.proofs.Common.{◌≡◌, ℕ, ◌+◌, Option, Some, sym, ap, ◌∙◌, subst, arith}
use Rattle.mi_base.specs.Prefixes.{has}
use Rattle.mi_page.specs.Keys.{IsInside}
use Rattle.mi_page.specs.Nodes.{Node}
use Rattle.mi_page.specs.Routes.{IsChild}
use Rattle.mi_forest.specs.Forests.{Forest, IsLinked}
use Rattle.mi_forest.specs.Paths.{IsComplete, children_of}
use Rattle.mi_forest.proofs.NumberLemmas.{first_in}
use Rattle.mi_forest.proofs.PathLemmas.{child_on_way, root_on_way}
use Rattle.mi_core.specs.Debts.{Linked}
use Rattle.mi_core.specs.Pages.{forest_of, node_or_fresh}
use Rattle.mi_core.specs.Sound.{Sound}
use Rattle.mi_core.specs.State.{State, node_at}

module _ (s : State) (k : Sound s) (linked : Linked s) (key : ℕ) where
  abbrev f : Forest
  f = forest_of s.board s.pages s.actors k.chain

  root_linked : IsLinked f s.board.root
  root_linked = first_in s.board.root (f.chain (f.node s.board.root).level) k.pages.forest.root

  complete : IsComplete f
  complete = record {
    routed = λ n l lower above.
        let t = k.pages.there n l in
        let is : f.node n ≡ t.0 = ap node_or_fresh t.1 in
        let level = ap (λ (p : Node). p.level) is in
        let low = ap (λ (p : Node). p.low) is in
        let top = k.pages.height in
        let z = linked.routed n t.0 t.1 (omega arith) (omega arith) in
        let parent : f.node z.parent ≡ z.node = ap node_or_fresh z.there in
        record {
          parent = z.parent;
          linked = k.pages.linked z.parent z.node z.there;
          height = ap (λ (p : Node). p.level) parent ∙ z.height ∙ ap (λ n. n + 1) (sym level);
          child = ap (λ (p : Node). has n (children_of p.routes)) parent ∙ z.child;
        };
    alone = (let t = k.pages.there s.board.root root_linked in ap (λ (o : Option Node). (node_or_fresh o).right) t.1 ∙ linked.alone t.0 t.1);
  }

  pub root_straight : (n : Node) → node_at s.pages s.board.root ≡ Some n → IsInside n.low n.high key
  root_straight n there = subst (λ (p : Node). IsInside p.low p.high key) (ap node_or_fresh there) (root_on_way f k.pages.forest complete key).inside

  pub child_straight : (page child : ℕ) (n : Node) → node_at s.pages page ≡ Some n → IsInside n.low n.high key → IsChild key n.routes child
      → (m : Node) × (node_at s.pages child ≡ Some m) × IsInside m.low m.high key
  child_straight page child n there inside its =
      let is : f.node page ≡ n = ap node_or_fresh there in
      let way = child_on_way f k.pages.forest complete key page child
      (record { linked = k.pages.linked page n there; inside = subst (λ (p : Node). IsInside p.low p.high key) (sym is) inside })
      (subst (λ (p : Node). IsChild key p.routes child) (sym is) its) in
      let t = k.pages.there child way.linked in
      (t.0, t.1, subst (λ (p : Node). IsInside p.low p.high key) (ap node_or_fresh t.1) way.inside)
