-- A page's entries or routes change.
use Rattle.std.proofs.Common.{◌≡◌, ℕ, ◌+◌, ◌<◌, ◌≤◌, List, [], ◌∷◌, length, cond, nat_lt, Some, IsTrue, refl, sym, ap, ◌∙◌, subst, arith, inl, inr}
use Rattle.std.specs.List.{AllByRecursion}
use Rattle.std.proofs.lemmas.Bool.{cases_eq}
use Rattle.mi_base.specs.Prefixes.{has}
use Rattle.mi_page.specs.declared.routes.Route.{Route}
use Rattle.mi_page.specs.Keys.{is_below}
use Rattle.mi_page.specs.Nodes.{Node, IsNode, fresh_node}
use Rattle.mi_tree.proofs.ListLemmas.{all_weaker, all_any}
use Rattle.mi_forest.specs.Forests.{Forest, IsForest, IsLinked, IsChain, LeadsDown, head, head_low, occurrences}
use Rattle.mi_forest.specs.Changes.{PagesStay, SameFrame, RewritesPage}
use Rattle.mi_forest.proofs.HandLemmas.{linked_allotted}

-- a page in the place of another: of the same range and siblings, and a page where that one is
pub record Keeps (p q : Node) : Type 0 where
  pub frame : SameFrame p q
  pub page : IsNode p → IsNode q

pub keeps_same : (p q : Node) → q ≡ p → Keeps p q
keeps_same p q e = subst (λ (x : Node). Keeps p x) (sym e) (record { frame = record { level = refl; low = refl; high = refl; right = refl }; page = λ i. i })

pub low_same : (node new : ℕ → Node) (ns : List ℕ) → AllByRecursion (λ m. Keeps (node m) (new m)) ns → head_low node ns ≡ head_low new ns
low_same node new [] a = refl
low_same node new (m ∷ ms) a = ap Some (sym a.0.frame.low)

pub wide_same : (p q : Node) → q.high ≡ p.high → q.low ≡ p.low → IsTrue (is_below p.high p.low) → IsTrue (is_below q.high q.low)
wide_same p q e d w = ap (λ h. is_below h q.low) e ∙ ap (is_below p.high) d ∙ w

pub chain_same : (node new : ℕ → Node) (level : ℕ) (ns : List ℕ) → AllByRecursion (λ m. Keeps (node m) (new m)) ns → IsChain node level ns → IsChain new level ns
chain_same node new level [] a c = tt
chain_same node new level (n ∷ rest) a c = (
  record {
    page = a.0.page c.0.page;
    height = a.0.frame.level ∙ c.0.height;
    right = a.0.frame.right ∙ c.0.right;
    high = a.0.frame.high ∙ c.0.high ∙ low_same node new rest a.1;
    wide = wide_same (node n) (new n) a.0.frame.high a.0.frame.low c.0.wide;
  },
  chain_same node new level rest a.1 c.1,
)

pub leads_on : (old new : Forest) → PagesStay old new → (level : ℕ) (rs : List Route) → AllByRecursion (LeadsDown old level) rs → AllByRecursion (LeadsDown new level) rs
leads_on old new g level rs a =
    all_weaker (LeadsDown old level) (LeadsDown new level)
    (λ r l. record { linked = g.linked r.child l.linked; height = ap (λ n. n + 1) (g.level r.child l.linked) ∙ l.height; low = g.low r.child l.linked ∙ l.low }) rs a

module _ (old new : Forest) (h : IsForest old) (n : ℕ) (w : RewritesPage old new n) where
  keeps : (m : ℕ) → Keeps (old.node m) (new.node m)
  keeps m = elim (cases_eq m n) [
    | inl e ↦ subst (λ (k : ℕ). Keeps (old.node k) (new.node k)) (sym e) (record { frame = w.frame; page = λ _. w.page })
    | inr o ↦ keeps_same (old.node m) (new.node m) (w.others m o)
  ]

  more : (m : ℕ) → length (old.node m).routes ≤ length (new.node m).routes
  more m = elim (cases_eq m n) [
    | inl e ↦ subst (λ (k : ℕ). length (old.node k).routes ≤ length (new.node k).routes) (sym e) w.more
    | inr o ↦ let same = ap (λ (p : Node). length p.routes) (w.others m o) in omega arith
  ]

  -- the chain of a page's level
  own_chain : (m : ℕ) → new.chain (new.node m).level ≡ old.chain (old.node m).level
  own_chain m = w.chains (new.node m).level ∙ ap old.chain (keeps m).frame.level

  linked_back : (m : ℕ) → IsLinked new m → IsLinked old m
  linked_back m l = sym (ap (has m) (own_chain m)) ∙ l

  pub rewrite_grown : PagesStay old new
  rewrite_grown = record { linked = λ m l. ap (has m) (own_chain m) ∙ l; level = λ m _. (keeps m).frame.level; low = λ m _. (keeps m).frame.low }

  routes_kept : (m : ℕ) → IsLinked old m → AllByRecursion (LeadsDown old (old.node m).level) (new.node m).routes
  routes_kept m l = elim (cases_eq m n) [
    | inl e ↦ subst (λ (k : ℕ). AllByRecursion (LeadsDown old (old.node k).level) (new.node k).routes) (sym e) w.routes
    | inr o ↦ subst (λ (p : Node). AllByRecursion (LeadsDown old (old.node m).level) p.routes) (sym (w.others m o)) (h.routes m l)
  ]

  fresh_at : (m : ℕ) → 0 < new.held m → new.node m ≡ fresh_node
  fresh_at m some =
      let same = w.held m in
      w.others m (λ e. let none = (linked_allotted old h n w.linked).1 in let here = ap old.held e in absurd (omega arith)) ∙ h.fresh m (omega arith)

  pub rewrite_keeps : IsForest new
  rewrite_keeps = record {
    chains = λ level. subst (IsChain new.node level) (sym (w.chains level)) (chain_same old.node new.node level (old.chain level) (all_any (λ m. Keeps (old.node m) (new.node m)) keeps (old.chain level)) (h.chains level));
    first = ap head (w.chains 0) ∙ h.first;
    lowest = λ level m e. (keeps m).frame.low ∙ h.lowest level m (sym (ap head (w.chains level)) ∙ e);
    routes = λ m l. subst (λ (v : ℕ). AllByRecursion (LeadsDown new v) (new.node m).routes) (sym (keeps m).frame.level)
        (leads_on old new rewrite_grown (old.node m).level (new.node m).routes (routes_kept m (linked_back m l)));
    full = λ m l above many.
        let same = ap length (own_chain m) in
        let height = (keeps m).frame.level in
        let was = h.full m (linked_back m l) (omega arith) (omega arith) in
        let grow = more m in
        omega arith;
    pairs = λ level some. let upper = ap length (w.chains (level + 1)) in let lower = ap length (w.chains level) in let was = h.pairs level (omega arith) in omega arith;
    root = ap head (own_chain new.root) ∙ ap (λ r. head (old.chain (old.node r).level)) w.root ∙ h.root ∙ ap Some (sym w.root);
    top = λ level above. let same = (keeps new.root).frame.level ∙ ap (λ r. (old.node r).level) w.root in w.chains level ∙ h.top level (omega arith);
    once = λ m. ap (λ ns. occurrences m ns + new.held m) (own_chain m) ∙ ap (λ k. occurrences m (old.chain (old.node m).level) + k) (w.held m) ∙ h.once m ∙ ap (λ a. cond (nat_lt m a) 1 0) (sym w.allotted);
    fresh = fresh_at;
  }

pub grown_refl : (f : Forest) → PagesStay f f
grown_refl f = record { linked = λ m l. l; level = λ m l. refl; low = λ m l. refl }

pub grown_trans : (f g k : Forest) → PagesStay f g → PagesStay g k → PagesStay f k
grown_trans f g k a b = record {
  linked = λ m l. b.linked m (a.linked m l);
  level = λ m l. b.level m (a.linked m l) ∙ a.level m l;
  low = λ m l. b.low m (a.linked m l) ∙ a.low m l;
}
