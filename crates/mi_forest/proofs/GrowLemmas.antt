-- A new root, and a new page in a hand.
use Rattle.std.proofs.Common.{◌≡◌, ◌≢◌, ℕ, ◌+◌, ◌<◌, ◌≤◌, [], ◌∷◌, length, Bool, true, false, cond, ◌||◌, nat_eq, nat_lt, Some, refl, sym, ap, ◌∙◌, subst, arith, inl, inr}
use Rattle.std.specs.List.{AllByRecursion, flat_map}
use Rattle.std.proofs.lemmas.Bool.{cases_eq, eqb-true, false≢true}
use Rattle.mi_base.specs.Prefixes.{has}
use Rattle.mi_page.specs.Keys.{is_below}
use Rattle.mi_page.specs.Nodes.{Node, IsNode, root_node, fresh_node}
use Rattle.mi_page.proofs.NodeLemmas.{root_is}
use Rattle.mi_tree.proofs.ListLemmas.{flat_same}
use Rattle.mi_forest.specs.Forests.{Forest, IsForest, IsLinked, IsChain, LeadsDown, head, occurrences, all_entries}
use Rattle.mi_forest.specs.Changes.{PagesStay, GrowsRoot}
use Rattle.mi_forest.proofs.NumberLemmas.{one_same, one_other, all_from_has, first_in, has_two}
use Rattle.mi_forest.proofs.KeepLemmas.{Keeps, keeps_same, chain_same, leads_on}
use Rattle.mi_forest.proofs.HandLemmas.{hand_apart, hand_once}

module _ (old new : Forest) (h : IsForest old) (q key child : ℕ) (w : GrowsRoot old new q key child) where
  abbrev height : ℕ
  height = (old.node old.root).level

  apart : (level m : ℕ) → has m (old.chain level) ≡ true → m ≢ q
  apart = hand_apart old h q w.fresh

  same_at : (level m : ℕ) → has m (old.chain level) ≡ true → new.node m ≡ old.node m
  same_at level m t = w.others m (apart level m t)

  root_linked : IsLinked old old.root
  root_linked = first_in old.root (old.chain height) h.root

  -- the chains of a page that was there
  level_new : (new.node q).level ≡ height + 1
  level_new = ap (λ (p : Node). p.level) w.node

  own_new : new.chain (new.node q).level ≡ q ∷ []
  own_new = ap new.chain level_new ∙ w.chain

  linked_kept : (m : ℕ) → IsLinked old m → IsLinked new m
  linked_kept m l = elim (cases_eq (old.node m).level (height + 1)) [
    | inl e ↦ absurd (false≢true (ap (has m) (sym (h.top (old.node m).level (omega arith))) ∙ l))
    | inr o ↦ ap (λ (p : Node). has m (new.chain p.level)) (same_at (old.node m).level m l) ∙ ap (has m) (w.chains (old.node m).level o) ∙ l
  ]

  pub grows_new : IsLinked new q
  grows_new = ap (has q) own_new ∙ first_in q (q ∷ []) refl

  pub grows_grown : PagesStay old new
  grows_grown = record {
    linked = linked_kept;
    level = λ m l. ap (λ (p : Node). p.level) (same_at (old.node m).level m l);
    low = λ m l. ap (λ (p : Node). p.low) (same_at (old.node m).level m l);
  }

  pub grows_back : (m : ℕ) → m ≢ q → IsLinked new m → IsLinked old m
  grows_back m o l =
      let here : has m (new.chain (old.node m).level) ≡ true = sym (ap (λ (p : Node). has m (new.chain p.level)) (w.others m o)) ∙ l in
      elim (cases_eq (old.node m).level (height + 1)) [
        | inl e ↦ absurd (o (only m (sym (ap (has m) (ap new.chain e ∙ w.chain)) ∙ here)))
        | inr k ↦ sym (ap (has m) (w.chains (old.node m).level k)) ∙ here
      ]
    where
      only : (m : ℕ) → (nat_eq q m || false) ≡ true → m ≡ q
      only m t = sym (eqb-true q m (or_no (nat_eq q m) t))
        where
          or_no : (b : Bool) → (b || false) ≡ true → b ≡ true
          or_no true e = refl
          or_no false e = e

  chain_at : (level : ℕ) → IsChain new.node level (new.chain level)
  chain_at level = elim (cases_eq level (height + 1)) [
    | inl e ↦ subst (λ (l : ℕ). IsChain new.node l (new.chain l)) (sym e) (subst (IsChain new.node (height + 1)) (sym w.chain) (
      record {
        page = subst IsNode (sym w.node) (root_is (height + 1) old.root key child (omega arith) w.above);
        height = level_new;
        right = ap (λ (p : Node). p.right) w.node;
        high = ap (λ (p : Node). p.high) w.node;
        wide = ap (λ (p : Node). is_below p.high p.low) w.node;
      },
      tt,
    ))
    | inr o ↦ subst (IsChain new.node level) (sym (w.chains level o))
        (chain_same old.node new.node level (old.chain level)
        (all_from_has (λ m. Keeps (old.node m) (new.node m)) (old.chain level) (λ m t. keeps_same (old.node m) (new.node m) (same_at level m t))) (h.chains level))
  ]

  lowest_at : (level m : ℕ) → head (new.chain level) ≡ Some m → (new.node m).low ≡ 0
  lowest_at level m e = elim (cases_eq level (height + 1)) [
    | inl is ↦
        let some : Some q ≡ Some m = ap head (sym (ap new.chain is ∙ w.chain)) ∙ e in
        let same : q ≡ m = cc in
        ap (λ k. (new.node k).low) (sym same) ∙ ap (λ (p : Node). p.low) w.node
    | inr o ↦
        let was : head (old.chain level) ≡ Some m = ap head (sym (w.chains level o)) ∙ e in
        ap (λ (p : Node). p.low) (same_at level m (first_in m (old.chain level) was)) ∙ h.lowest level m was
  ]

  new_leads : AllByRecursion (LeadsDown old (height + 1)) (root_node (height + 1) old.root key child).routes
  new_leads = (
    record { linked = root_linked; height = refl; low = h.lowest height old.root h.root },
    (record { linked = w.linked; height = ap (λ l. l + 1) w.height; low = w.low }, tt),
  )

  routes_at : (m : ℕ) → IsLinked new m → AllByRecursion (LeadsDown old (new.node m).level) (new.node m).routes
  routes_at m l = elim (cases_eq m q) [
    | inl e ↦ subst (λ (k : ℕ). AllByRecursion (LeadsDown old (new.node k).level) (new.node k).routes) (sym e)
        (subst (λ (p : Node). AllByRecursion (LeadsDown old p.level) p.routes) (sym w.node) new_leads)
    | inr o ↦ subst (λ (p : Node). AllByRecursion (LeadsDown old p.level) p.routes) (sym (w.others m o)) (h.routes m (grows_back m o l))
  ]

  full_at : (m : ℕ) → IsLinked new m → 0 < (new.node m).level → 1 < length (new.chain (new.node m).level) → 16 ≤ length (new.node m).routes
  full_at m l above many = elim (cases_eq m q) [
    | inl e ↦ let alone = ap (λ k. length (new.chain (new.node k).level)) e ∙ ap length own_new in absurd (omega arith)
    | inr o ↦
        let same = ap (λ (p : Node). p.level) (w.others m o) in
        let routes = ap (λ (p : Node). length p.routes) (w.others m o) in
        let alike = ap (λ (p : Node). length (new.chain p.level)) (w.others m o) in
        elim (cases_eq (old.node m).level (height + 1)) [
          | inl e ↦ let alone = ap length (ap new.chain e ∙ w.chain) in absurd (omega arith)
          | inr k ↦ let keep = ap length (w.chains (old.node m).level k) in let was = h.full m (grows_back m o l) (omega arith) (omega arith) in omega arith
        ]
  ]

  pairs_at : (level : ℕ) → 0 < length (new.chain (level + 1)) → 1 < length (new.chain level)
  pairs_at level some = elim (cases_eq level height) [
    | inl e ↦
        let child_in : has child (old.chain height) ≡ true = sym (ap (λ l. has child (old.chain l)) w.height) ∙ w.linked in
        let apart_root : old.root ≢ child = λ same. let low = ap (λ k. (old.node k).low) same in let zero_low = h.lowest height old.root h.root in let more = w.above in let is = w.low in absurd (omega arith) in
        let long = has_two old.root child (old.chain height) root_linked child_in apart_root in
        let keep = ap length (ap new.chain e ∙ w.chains height (omega arith)) in
        omega arith
    | inr o ↦
        let upper = ap length (w.chains (level + 1) (omega arith)) in
        let was = h.pairs level (omega arith) in
        elim (cases_eq level (height + 1)) [
          | inl e ↦ let none = ap length (h.top (level + 1) (omega arith)) in absurd (omega arith)
          | inr k ↦ let lower = ap length (w.chains level k) in omega arith
        ]
  ]

  top_at : (level : ℕ) → (new.node new.root).level < level → new.chain level ≡ []
  top_at level above =
      let is : (new.node new.root).level ≡ height + 1 = ap (λ r. (new.node r).level) w.root ∙ level_new in
      w.chains level (omega arith) ∙ h.top level (omega arith)

  once_at : (m : ℕ) → occurrences m (new.chain (new.node m).level) + new.held m ≡ cond (nat_lt m new.allotted) 1 0
  once_at m = elim (cases_eq m q) [
    | inl e ↦ subst (λ (k : ℕ). occurrences k (new.chain (new.node k).level) + new.held k ≡ cond (nat_lt k new.allotted) 1 0) (sym e)
        (let chain = ap (occurrences q) own_new in
        let was = hand_once old h q w.fresh in
        let kept = was.0 in
        let all = was.1 in
        let held = w.held q in
        let here = one_same q in
        let count = ap (λ (a : ℕ). cond {A = ℕ} (nat_lt q a) 1 0) w.allotted in
        omega arith)
    | inr o ↦
        let level = ap (λ (p : Node). occurrences m (new.chain p.level)) (w.others m o) in
        let held = w.held m in
        let gone = one_other m q o in
        let all = h.once m in
        let count = ap (λ (a : ℕ). cond {A = ℕ} (nat_lt m a) 1 0) w.allotted in
        elim (cases_eq (old.node m).level (height + 1)) [
          | inl e ↦
              let none = ap (occurrences m) (h.top (old.node m).level (omega arith)) in
              let alone = ap (occurrences m) (ap new.chain e ∙ w.chain) in
              omega arith
          | inr k ↦ let keep = ap (occurrences m) (w.chains (old.node m).level k) in omega arith
        ]
  ]

  fresh_at : (m : ℕ) → 0 < new.held m → new.node m ≡ fresh_node
  fresh_at m some =
      let held = w.held m in
      let o : m ≢ q = λ e.
      let mine = subst (λ (k : ℕ). 0 < new.held k) e some in
      let was = (hand_once old h q w.fresh).0 in
      let gone = w.held q in
      let here = one_same q in
      omega arith in
      w.others m o ∙ h.fresh m (omega arith)

  pub grows_keep : IsForest new
  grows_keep = record {
    chains = chain_at;
    first = ap head (w.chains 0 (omega arith)) ∙ h.first;
    lowest = lowest_at;
    routes = λ m l. leads_on old new grows_grown (new.node m).level (new.node m).routes (routes_at m l);
    full = full_at;
    pairs = pairs_at;
    root = subst (λ (r : ℕ). head (new.chain (new.node r).level) ≡ Some r) (sym w.root) (ap head own_new);
    top = top_at;
    once = once_at;
    fresh = fresh_at;
  }

  pub grows_flat : all_entries new ≡ all_entries old
  grows_flat = ap (flat_map (λ m. (new.node m).entries)) (w.chains 0 (omega arith))
      ∙ flat_same (λ m. (new.node m).entries) (λ m. (old.node m).entries) (old.chain 0)
      (all_from_has (λ m. (new.node m).entries ≡ (old.node m).entries) (old.chain 0) (λ m t. ap (λ (p : Node). p.entries) (same_at 0 m t)))
