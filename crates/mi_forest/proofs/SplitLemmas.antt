-- Linked pages stay linked when a full one is halved.
use Rattle.std.proofs.Common.{◌≡◌, ◌≢◌, ℕ, ◌+◌, ◌<◌, ◌≤◌, List, [], length, true, cond, nat_lt, Some, sym, ap, ◌∙◌, subst, arith, inl, inr}
use Rattle.std.specs.List.{AllByRecursion, flat_map}
use Rattle.std.proofs.lemmas.Bool.{cases_eq}
use Rattle.std.proofs.lemmas.List.{length-take, length-drop}
use Rattle.mi_base.specs.Prefixes.{has}
use Rattle.mi_page.specs.Nodes.{Node, IsNode, fresh_node}
use Rattle.mi_forest.specs.Forests.{Forest, IsForest, IsLinked, IsChain, LeadsDown, head, occurrence, occurrences, all_entries}
use Rattle.mi_forest.specs.Changes.{PagesStay, HalvesPage, put_after}
use Rattle.mi_forest.proofs.ListLemmas.{drop_all_of}
use Rattle.mi_tree.proofs.ListLemmas.{all_take}
use Rattle.mi_forest.proofs.MoveLemmas.{stands}
use Rattle.mi_forest.proofs.HandLemmas.{bool_cases, hand_apart, hand_times, hand_once, linked_allotted}
use Rattle.mi_forest.proofs.NumberLemmas.{one_same, one_other, first_in, all_from_has, has_two, next_after, has_after, has_new, has_back, times_after, after_none, after_long, after_some}
use Rattle.mi_forest.proofs.KeepLemmas.{leads_on}
use Rattle.mi_forest.proofs.HalveLemmas.{halved_chain, halved_entries}

module _ (old new : Forest) (h : IsForest old) (n q : ℕ) (w : HalvesPage old new n q) where
  page : IsNode (old.node n)
  page = (stands old h n w.linked).stands.page

  apart : (level m : ℕ) → has m (old.chain level) ≡ true → m ≢ q
  apart = hand_apart old h q w.fresh

  apart_chain : (level : ℕ) → AllByRecursion (λ m. m ≢ q) (old.chain level)
  apart_chain level = all_from_has (λ m. m ≢ q) (old.chain level) (apart level)

  level_at : (m : ℕ) → m ≢ q → (new.node m).level ≡ (old.node m).level
  level_at m o = elim (cases_eq m n) [
    | inl e ↦ subst (λ (k : ℕ). (new.node k).level ≡ (old.node k).level) (sym e) (ap (λ (p : Node). p.level) w.lower)
    | inr k ↦ ap (λ (p : Node). p.level) (w.others m k o)
  ]

  low_at : (m : ℕ) → m ≢ q → (new.node m).low ≡ (old.node m).low
  low_at m o = elim (cases_eq m n) [
    | inl e ↦ subst (λ (k : ℕ). (new.node k).low ≡ (old.node k).low) (sym e) (ap (λ (p : Node). p.low) w.lower)
    | inr k ↦ ap (λ (p : Node). p.low) (w.others m k o)
  ]

  level_new : (new.node q).level ≡ (old.node n).level
  level_new = ap (λ (p : Node). p.level) w.upper

  own_chain : (m : ℕ) → m ≢ q → new.chain (new.node m).level ≡ put_after n q (old.chain (old.node m).level)
  own_chain m o = w.chains (new.node m).level ∙ ap (λ l. put_after n q (old.chain l)) (level_at m o)

  new_chain : new.chain (new.node q).level ≡ put_after n q (old.chain (old.node n).level)
  new_chain = w.chains (new.node q).level ∙ ap (λ l. put_after n q (old.chain l)) level_new

  pub halves_grown : PagesStay old new
  halves_grown = record {
    linked = λ m l. let o = apart (old.node m).level m l in ap (has m) (own_chain m o) ∙ has_after n q m (old.chain (old.node m).level) l;
    level = λ m l. level_at m (apart (old.node m).level m l);
    low = λ m l. low_at m (apart (old.node m).level m l);
  }

  pub halves_new : IsLinked new q
  halves_new = ap (has q) new_chain ∙ has_new n q (old.chain (old.node n).level) w.linked

  pub linked_back : (m : ℕ) → m ≢ q → IsLinked new m → IsLinked old m
  linked_back m o l = has_back n q m (old.chain (old.node m).level) o (sym (ap (has m) (own_chain m o)) ∙ l)

  routes_at : (m : ℕ) → IsLinked new m → AllByRecursion (LeadsDown old (new.node m).level) (new.node m).routes
  routes_at m l = elim (cases_eq m q) [
    | inl e ↦ subst (λ (k : ℕ). AllByRecursion (LeadsDown old (new.node k).level) (new.node k).routes) (sym e)
        (subst (λ (p : Node). AllByRecursion (LeadsDown old p.level) p.routes) (sym w.upper) (drop_all_of (LeadsDown old (old.node n).level) 16 (old.node n).routes (h.routes n w.linked)))
    | inr o ↦ elim (cases_eq m n) [
      | inl e ↦ subst (λ (k : ℕ). AllByRecursion (LeadsDown old (new.node k).level) (new.node k).routes) (sym e)
          (subst (λ (p : Node). AllByRecursion (LeadsDown old p.level) p.routes) (sym w.lower) (all_take (LeadsDown old (old.node n).level) 16 (old.node n).routes (h.routes n w.linked)))
      | inr k ↦ subst (λ (p : Node). AllByRecursion (LeadsDown old p.level) p.routes) (sym (w.others m k o)) (h.routes m (linked_back m o l))
    ]
  ]

  no_entries : 0 < (old.node n).level → length (old.node n).routes ≡ 32
  no_entries above = let none = ap length (page.inner above) in let full = w.full in omega arith

  full_at : (m : ℕ) → IsLinked new m → 0 < (new.node m).level → 1 < length (new.chain (new.node m).level) → 16 ≤ length (new.node m).routes
  full_at m l above many = elim (cases_eq m q) [
    | inl e ↦ subst (λ (k : ℕ). 16 ≤ length (new.node k).routes) (sym e)
        (let up = subst (λ (k : ℕ). 0 < (new.node k).level) e above in
        let long = no_entries (omega (arith, level_new)) in
        let is = ap (λ (p : Node). length p.routes) w.upper in
        omega (arith, length-drop 16 (old.node n).routes))
    | inr o ↦ elim (cases_eq m n) [
      | inl e ↦ subst (λ (k : ℕ). 16 ≤ length (new.node k).routes) (sym e)
          (let up = subst (λ (k : ℕ). 0 < (new.node k).level) e above in
          let long = no_entries (let same = ap (λ (p : Node). p.level) w.lower in omega arith) in
          let is = ap (λ (p : Node). length p.routes) w.lower in
          omega (arith, length-take 16 (old.node n).routes))
      | inr k ↦
          let was = linked_back m o l in
          let same = level_at m o in
          let long : 1 < length (old.chain (old.node m).level) = elim (bool_cases (has n (old.chain (old.node m).level))) [
            | inl t ↦ has_two m n (old.chain (old.node m).level) was t k
            | inr t ↦ let keep = ap length (own_chain m o ∙ after_none n q (old.chain (old.node m).level) t) in omega arith
          ] in
          let all = h.full m was (omega arith) long in
          let is = ap (λ (p : Node). length p.routes) (w.others m k o) in
          omega arith
    ]
  ]

  once_at : (m : ℕ) → occurrences m (new.chain (new.node m).level) + new.held m ≡ cond (nat_lt m new.allotted) 1 0
  once_at m = elim (cases_eq m q) [
    | inl e ↦ subst (λ (k : ℕ). occurrences k (new.chain (new.node k).level) + new.held k ≡ cond (nat_lt k new.allotted) 1 0) (sym e)
        (let chain = ap (occurrences q) new_chain ∙ times_after n q q (old.chain (old.node n).level) w.linked in
        let none = hand_times old h q w.fresh (old.node n).level in
        let was = hand_once old h q w.fresh in
        let kept = was.0 in
        let held = w.held q in
        let here = one_same q in
        let all = was.1 in
        let count = ap (λ (a : ℕ). cond {A = ℕ} (nat_lt q a) 1 0) w.allotted in
        omega arith)
    | inr o ↦
        let ns : List ℕ = old.chain (old.node m).level in
        let chain : occurrences m (new.chain (new.node m).level) ≡ occurrences m ns = elim (bool_cases (has n ns)) [
          | inl t ↦ ap (occurrences m) (own_chain m o) ∙ times_after n q m ns t ∙ (let gone = one_other m q o in omega arith)
          | inr t ↦ ap (occurrences m) (own_chain m o ∙ after_none n q ns t)
        ] in
        let held = w.held m in
        let gone = one_other m q o in
        let all = h.once m in
        let count = ap (λ (a : ℕ). cond {A = ℕ} (nat_lt m a) 1 0) w.allotted in
        omega arith
  ]

  root_apart : old.root ≢ q
  root_apart = apart (old.node old.root).level old.root (first_in old.root (old.chain (old.node old.root).level) h.root)

  -- the root stays on its level
  pub halves_level : (new.node new.root).level ≡ (old.node old.root).level
  halves_level = ap (λ r. (new.node r).level) w.root ∙ level_at old.root root_apart

  root_at : head (new.chain (new.node new.root).level) ≡ Some new.root
  root_at =
      subst (λ (r : ℕ). head (new.chain (new.node r).level) ≡ Some r) (sym w.root)
      (ap head (own_chain old.root root_apart) ∙ next_after n q (old.chain (old.node old.root).level) ∙ h.root)

  lowest_at : (level m : ℕ) → head (new.chain level) ≡ Some m → (new.node m).low ≡ 0
  lowest_at level m e =
      let was : head (old.chain level) ≡ Some m = sym (next_after n q (old.chain level)) ∙ ap head (sym (w.chains level)) ∙ e in
      low_at m (apart level m (first_in m (old.chain level) was)) ∙ h.lowest level m was

  top_at : (level : ℕ) → (new.node new.root).level < level → new.chain level ≡ []
  top_at level above =
      let same : (new.node new.root).level ≡ (old.node old.root).level = ap (λ r. (new.node r).level) w.root ∙ level_at old.root root_apart in
      w.chains level ∙ ap (put_after n q) (h.top level (omega arith))

  fresh_at : (m : ℕ) → 0 < new.held m → new.node m ≡ fresh_node
  fresh_at m some =
      let held = w.held m in
      let o : m ≢ q = λ e.
      let mine = subst (λ (k : ℕ). 0 < new.held k) e some in
      let was = (hand_once old h q w.fresh).0 in
      let gone = w.held q in
      let here = one_same q in
      omega arith in
      let k : m ≢ n = λ e.
      let mine = subst (λ (j : ℕ). new.held j + occurrence j q ≡ old.held j) e held in
      let some_here = subst (λ (j : ℕ). 0 < new.held j) e some in
      let none = (linked_allotted old h n w.linked).1 in
      omega arith in
      w.others m k o ∙ h.fresh m (omega arith)

  pub halves_keep : IsForest new
  halves_keep = record {
    chains = λ level. subst (IsChain new.node level) (sym (w.chains level))
        (halved_chain old.node new.node level n q w.full w.lower w.upper w.others (old.chain level) (h.chains level) (apart_chain level));
    first = ap head (w.chains 0) ∙ next_after n q (old.chain 0) ∙ h.first;
    lowest = lowest_at;
    routes = λ m l. leads_on old new halves_grown (new.node m).level (new.node m).routes (routes_at m l);
    full = full_at;
    pairs = λ level some.
        let upper = ap length (w.chains (level + 1)) in
        let lower = ap length (w.chains level) in
        let any = after_some n q (old.chain (level + 1)) (omega arith) in
        let was = h.pairs level any in
        let long = after_long n q (old.chain level) in
        omega arith;
    root = root_at;
    top = top_at;
    once = once_at;
    fresh = fresh_at;
  }

  pub halves_flat : all_entries new ≡ all_entries old
  halves_flat = ap (flat_map (λ m. (new.node m).entries)) (w.chains 0)
      ∙ halved_entries old.node new.node 0 n q w.full w.lower w.upper w.others (old.chain 0) (h.chains 0) (apart_chain 0)
