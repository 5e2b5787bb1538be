-- A leaf page of a state changes.
use Rattle.std.proofs.Common.{◌≡◌, ◌≢◌, ℕ, suc, zero, ◌<◌, List, [], ◌∷◌, length, set, Bool, true, false, not, ◌&&◌, ◌||◌, refl, sym, ap, ◌∙◌, subst, arith, Option, Some, None, inl, inr, length-set, get_or-set_other, get_or-set_same}
use Rattle.std.specs.List.{AllByRecursion, filter}
use Rattle.std.proofs.lemmas.Bool.{cases_eq, ne_eqb}
use Rattle.mi_base.specs.Prefixes.{has}
use Rattle.mi_base.specs.Sorting.{put}
use Rattle.mi_key.specs.declared.entries.Entry.{Entry}
use Rattle.mi_page.specs.Entries.{entry_cmp, entry_keys, has_entry, outlives, without_dead}
use Rattle.mi_page.specs.Keys.{IsInside}
use Rattle.mi_page.specs.Nodes.{Node, item_count, in_range}
use Rattle.mi_core.specs.Effects.{put_entry, trim_node}
use Rattle.mi_forest.specs.Forests.{Forest, IsForest, IsLinked, all_entries}
use Rattle.mi_forest.specs.Changes.{SetsPage, with_entries}
use Rattle.mi_core.specs.Pages.{ArePages, forest_of, node_or_fresh}
use Rattle.mi_entries.specs.Actors.{Actor}
use Rattle.mi_core.specs.State.{node_at}
use Rattle.mi_board.specs.Boards.{BoardState}
use Rattle.mi_core.proofs.ActorLemmas.{set_twice}
use Rattle.mi_forest.proofs.EventLemmas.{filter_event, put_event}
use Rattle.mi_forest.proofs.FlatLemmas.{leaf_entries}
use Rattle.mi_forest.proofs.MoveLemmas.{stands}
use Rattle.mi_base.proofs.SortingLemmas.{filter_keeps}
use Rattle.mi_tree.proofs.ListLemmas.{all_any, filter_same}

pub within : (pages : List (Option Node)) (p : ℕ) (n : Node) → node_at pages p ≡ Some n → p < length pages
within [] p n e = absurd (no e)
  where
    no : None ≡ Some n → ⊥
    no e = cc
within (x ∷ pages) zero n e = omega arith
within (x ∷ pages) (suc p) n e = omega (arith, within pages p n e)

-- functions that agree everywhere are one
pub fun_same : {X Y : Type 0} (f g : X → Y) → ((x : X) → f x ≡ g x) → f ≡ g
fun_same f g h = λ i. λ x. h x i

-- a forest whose pages in hands are counted alike
pub forest_held : (f : Forest) (held : ℕ → ℕ) → ((p : ℕ) → held p ≡ f.held p) → IsForest f → IsForest (record { node = f.node; chain = f.chain; root = f.root; allotted = f.allotted; held = held })
forest_held f held same h = subst (λ (k : ℕ → ℕ). IsForest (record { node = f.node; chain = f.chain; root = f.root; allotted = f.allotted; held = k })) (fun_same f.held held (λ p. sym (same p))) h

module _ (b b' : BoardState) (pages : List (Option Node)) (actors actors' : List Actor) (chain : ℕ → List ℕ) (root : b'.root ≡ b.root) (allotted : b'.allotted ≡ b.allotted)
    (held : (p : ℕ) → (forest_of b' pages actors' chain).held p ≡ (forest_of b pages actors chain).held p) where
  pub page_sets : (p : ℕ) (y : Node) → p < length pages → SetsPage (forest_of b pages actors chain) (forest_of b' (set pages p (Some y)) actors' chain) p y
  page_sets p y lt = record {
    «is» = ap node_or_fresh (get_or-set_same pages p (Some y) None lt);
    others = λ m n. ap node_or_fresh (get_or-set_other pages p m (Some y) None n);
    chains = λ level. refl;
    root = root;
    allotted = allotted;
    held = held;
  }

not_both : (a b : Bool) → (not a || b) ≡ not (a && not b)
not_both true true = refl
not_both true false = refl
not_both false b = refl

no_key : (key : ℕ) (entries : List Entry) → AllByRecursion (λ y. y.key ≢ key) entries → has key (entry_keys entries) ≡ false
no_key key [] h = refl
no_key key (y ∷ ys) h = let n = h.0 in rw (ne_eqb y.key key n, no_key key ys h.1) refl

-- a leaf page is trimmed, and an entry is put into it
module _ (b b' : BoardState) (pages : List (Option Node)) (actors actors' : List Actor) (chain : ℕ → List ℕ) (are : ArePages b pages actors chain) (root : b'.root ≡ b.root) (allotted : b'.allotted ≡ b.allotted)
    (held : (p : ℕ) → (forest_of b' pages actors' chain).held p ≡ (forest_of b pages actors chain).held p)
    (page : ℕ) (node : Node) (there : node_at pages page ≡ Some node) (level : node.level ≡ 0) (u : ℕ) where
  abbrev old : Forest
  old = forest_of b pages actors chain

  abbrev mid : Forest
  mid = forest_of b (set pages page (Some (trim_node u node))) actors chain

  node_is : node_or_fresh (node_at pages page) ≡ node
  node_is = ap node_or_fresh there

  linked : IsLinked old page
  linked = are.linked page node there

  leaf : (old.node page).level ≡ 0
  leaf = ap (λ (n : Node). n.level) node_is ∙ level

  -- the entries of a page are some of all
  pub in_page : (P : Entry → Type 0) → AllByRecursion P (all_entries old) → AllByRecursion P node.entries
  in_page P h = subst (λ (n : Node). AllByRecursion P n.entries) node_is
      (subst (AllByRecursion P) (leaf_entries old are.forest page linked leaf) (filter_keeps P (λ e. in_range (old.node page) e.key) (all_entries old) h))

  mid_sets : SetsPage old mid page (with_entries (old.node page) (without_dead u (old.node page).entries))
  mid_sets = subst (λ (n : Node). SetsPage old mid page (with_entries n (without_dead u n.entries))) (sym node_is)
      (page_sets b b pages actors actors chain refl refl (λ p. refl) page (trim_node u node) (within pages page node there))

  mid_is : IsForest mid × (all_entries mid ≡ filter (λ e. not (in_range (old.node page) e.key) || outlives e.death u) (all_entries old))
  mid_is = filter_event old mid are.forest page linked leaf (λ e. outlives e.death u) mid_sets

  pub forest_mid : IsForest mid
  forest_mid = mid_is.0

  pub flat_trimmed : all_entries mid ≡ filter (λ e. not (in_range node e.key && not (outlives e.death u))) (all_entries old)
  flat_trimmed = mid_is.1
      ∙ filter_same (λ e. not (in_range (old.node page) e.key) || outlives e.death u) (λ e. not (in_range node e.key && not (outlives e.death u))) (all_entries old)
      (all_any _ (λ e. not_both (in_range (old.node page) e.key) (outlives e.death u) ∙ ap (λ (n : Node). not (in_range n e.key && not (outlives e.death u))) node_is) (all_entries old))

  module _ (e : Entry) (inside : IsInside node.low node.high e.key) (space : length (without_dead u node.entries) < 32) (absent : AllByRecursion (λ y. y.key ≢ e.key) (all_entries old)) where
    abbrev new : Forest
    new = forest_of b' (set pages page (Some (put_entry u e node))) actors' chain

    lt : page < length pages
    lt = within pages page node there

    mid_node : mid.node page ≡ trim_node u node
    mid_node = ap node_or_fresh (get_or-set_same pages page (Some (trim_node u node)) None lt)

    mid_linked : IsLinked mid page
    mid_linked = subst (λ (n : Node). has page (chain n.level) ≡ true) (sym mid_node) (subst (λ (n : Node). has page (chain n.level) ≡ true) node_is linked)

    few : item_count (mid.node page) < 32
    few =
        let routes : (mid.node page).routes ≡ [] = (stands mid mid_is.0 page mid_linked).stands.page.leaf (ap (λ (n : Node). n.level) mid_node ∙ level) in
        let none : length (mid.node page).routes ≡ 0 = ap length routes in
        let some : length (mid.node page).entries ≡ length (without_dead u node.entries) = ap (λ (n : Node). length n.entries) mid_node in
        omega arith

    new_sets : SetsPage mid new page (with_entries (mid.node page) (put entry_cmp e (mid.node page).entries))
    new_sets = subst (λ (n : Node). SetsPage mid new page (with_entries n (put entry_cmp e n.entries))) (sym mid_node)
        (subst (λ (ps : List (Option Node)). SetsPage mid (forest_of b' ps actors' chain) page (put_entry u e node)) (set_twice pages page (Some (trim_node u node)) (Some (put_entry u e node)))
        (page_sets b b' (set pages page (Some (trim_node u node))) actors actors' chain root allotted held page (put_entry u e node) (omega (arith, length-set pages page (Some (trim_node u node)), lt))))

    new_is : IsForest new × (all_entries new ≡ put entry_cmp e (all_entries mid))
    new_is = put_event mid new mid_is.0 page mid_linked (ap (λ (n : Node). n.level) mid_node ∙ level) e few
        (subst (λ (n : Node). IsInside n.low n.high e.key) (sym mid_node) inside)
        (subst (λ (n : Node). has_entry e.key n.entries ≡ false) (sym mid_node) (no_key e.key (without_dead u node.entries) (filter_keeps (λ y. y.key ≢ e.key) (λ y. outlives y.death u) node.entries (in_page (λ y. y.key ≢ e.key) absent))))
        new_sets

    pub forest_put : IsForest new
    forest_put = new_is.0

    pub flat_put : all_entries new ≡ put entry_cmp e (filter (λ e. not (in_range node e.key && not (outlives e.death u))) (all_entries old))
    flat_put = new_is.1 ∙ ap (put entry_cmp e) flat_trimmed

    -- linked pages are linked
    pub linked_put : (p : ℕ) (n : Node) → node_at (set pages page (Some (put_entry u e node))) p ≡ Some n → IsLinked new p
    linked_put p n s = elim (cases_eq p page) [
      | inl h ↦ subst (λ (m : ℕ). IsLinked new m) (sym h) (subst (λ (k : Node). has page (chain k.level) ≡ true) (sym (ap node_or_fresh (get_or-set_same pages page (Some (put_entry u e node)) None lt))) (subst (λ (k : Node). has page (chain k.level) ≡ true) node_is linked))
      | inr h ↦
          let same = get_or-set_other pages page p (Some (put_entry u e node)) None h in
          subst (λ (o : Option Node). has p (chain (node_or_fresh o).level) ≡ true) (sym same) (are.linked p n (sym same ∙ s))
    ]

-- a page is another one of its level: linked pages are linked, and the root has its level
module _ (b b' : BoardState) (pages : List (Option Node)) (actors actors' : List Actor) (chain : ℕ → List ℕ) (are : ArePages b pages actors chain) (root : b'.root ≡ b.root) (allotted : b'.allotted ≡ b.allotted)
    (held : (p : ℕ) → (forest_of b' pages actors' chain).held p ≡ (forest_of b pages actors chain).held p)
    (page : ℕ) (node y : Node) (there : node_at pages page ≡ Some node) (level : y.level ≡ node.level) where
  set_node : node_or_fresh (node_at (set pages page (Some y)) page) ≡ y
  set_node = ap node_or_fresh (get_or-set_same pages page (Some y) None (within pages page node there))

  pub linked_set : (p : ℕ) (n : Node) → node_at (set pages page (Some y)) p ≡ Some n → IsLinked (forest_of b' (set pages page (Some y)) actors' chain) p
  linked_set p n s = elim (cases_eq p page) [
    | inl h ↦ subst (λ (m : ℕ). IsLinked (forest_of b' (set pages page (Some y)) actors' chain) m) (sym h)
        (subst (λ (l : ℕ). has page (chain l) ≡ true) (sym (ap (λ (k : Node). k.level) set_node ∙ level)) (subst (λ (k : Node). has page (chain k.level) ≡ true) (ap node_or_fresh there) (are.linked page node there)))
    | inr h ↦
        let same = get_or-set_other pages page p (Some y) None h in
        subst (λ (o : Option Node). has p (chain (node_or_fresh o).level) ≡ true) (sym same) (are.linked p n (sym same ∙ s))
  ]

  pub there_set : (p : ℕ) → IsLinked (forest_of b' (set pages page (Some y)) actors' chain) p → (n : Node) × (node_at (set pages page (Some y)) p ≡ Some n)
  there_set p l = elim (cases_eq p page) [
    | inl h ↦ (y, ap (node_at (set pages page (Some y))) h ∙ get_or-set_same pages page (Some y) None (within pages page node there))
    | inr h ↦
        let same = get_or-set_other pages page p (Some y) None h in
        let t = are.there p (subst (λ (o : Option Node). has p (chain (node_or_fresh o).level) ≡ true) same l) in
        (t.0, same ∙ t.1)
  ]

  pub root_set : (node_or_fresh (node_at (set pages page (Some y)) b.root)).level ≡ b.height
  root_set = elim (cases_eq b.root page) [
    | inl h ↦
        ap (λ n. (node_or_fresh (node_at (set pages page (Some y)) n)).level) h ∙ ap (λ (k : Node). k.level) set_node ∙ level
        ∙ sym (ap (λ (o : Option Node). (node_or_fresh o).level) there) ∙ sym (ap (λ n. (node_or_fresh (node_at pages n)).level) h) ∙ are.height
    | inr h ↦ ap (λ (o : Option Node). (node_or_fresh o).level) (get_or-set_other pages page b.root (Some y) None h) ∙ are.height
  ]

-- some entries of a leaf page are dropped
module _ (b : BoardState) (pages : List (Option Node)) (actors actors' : List Actor) (chain : ℕ → List ℕ) (are : ArePages b pages actors chain)
    (held : (p : ℕ) → (forest_of b pages actors' chain).held p ≡ (forest_of b pages actors chain).held p)
    (page : ℕ) (node : Node) (there : node_at pages page ≡ Some node) (level : node.level ≡ 0) (t : Entry → Bool) where
  abbrev fewer : Node
  fewer = with_entries node (filter (λ e. not (t e)) node.entries)

  abbrev left : Forest
  left = forest_of b (set pages page (Some fewer)) actors' chain

  left_is : IsForest left × (all_entries left ≡ filter (λ e. not (in_range ((forest_of b pages actors chain).node page) e.key) || not (t e)) (all_entries (forest_of b pages actors chain)))
  left_is = filter_event (forest_of b pages actors chain) left are.forest page (are.linked page node there) (ap (λ (n : Node). n.level) (ap node_or_fresh there) ∙ level) (λ e. not (t e))
      (subst (λ (n : Node). SetsPage (forest_of b pages actors chain) left page (with_entries n (filter (λ e. not (t e)) n.entries))) (sym (ap node_or_fresh there))
      (page_sets b b pages actors actors' chain refl refl held page fewer (within pages page node there)))

  pub forest_fewer : IsForest left
  forest_fewer = left_is.0

  pub flat_fewer : all_entries left ≡ filter (λ e. not (in_range node e.key && t e)) (all_entries (forest_of b pages actors chain))
  flat_fewer = left_is.1
      ∙ filter_same (λ e. not (in_range ((forest_of b pages actors chain).node page) e.key) || not (t e)) (λ e. not (in_range node e.key && t e)) (all_entries (forest_of b pages actors chain))
      (all_any _ (λ e. or_nots (in_range ((forest_of b pages actors chain).node page) e.key) (t e) ∙ ap (λ (n : Node). not (in_range n e.key && t e)) (ap node_or_fresh there)) (all_entries (forest_of b pages actors chain)))
    where
      or_nots : (x y : Bool) → (not x || not y) ≡ not (x && y)
      or_nots true y = refl
      or_nots false y = refl
