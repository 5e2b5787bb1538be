-- The first page, and one more page in a hand.
use Rattle.std.proofs.Common.{add-one, ◌≡◌, ◌≢◌, ℕ, zero, suc, ◌+◌, ◌<◌, [], ◌∷◌, length, Bool, true, false, cond, nat_lt, Some, refl, sym, ap, ◌∙◌, subst, arith, inl, inr}
use Rattle.std.specs.List.{AllByRecursion, flat_map}
use Rattle.std.proofs.lemmas.Bool.{cases_eq}
use Rattle.std.proofs.lemmas.Bool.Decides.{nat_tests}
use Rattle.mi_base.specs.Prefixes.{has}
use Rattle.mi_page.specs.Nodes.{Node, fresh_node}
use Rattle.mi_page.proofs.NodeLemmas.{fresh_is}
use Rattle.mi_tree.proofs.ListLemmas.{flat_same}
use Rattle.mi_forest.specs.Forests.{Forest, IsForest, IsLinked, IsChain, LeadsDown, head, occurrences, all_entries, first_forest, first_chain}
use Rattle.mi_forest.specs.Changes.{PagesStay, AllotsPage}
use Rattle.mi_forest.proofs.MoveLemmas.{linked_in}
use Rattle.mi_forest.proofs.NumberLemmas.{one_same, one_other, all_from_has, first_in, no_times}
use Rattle.mi_forest.proofs.KeepLemmas.{Keeps, keeps_same, chain_same, leads_on}
use Rattle.mi_forest.proofs.HandLemmas.{bool_cases, allotted_below}

pub first_is : IsForest first_forest
first_is = record {
  chains = chains;
  first = refl;
  lowest = λ level n e. refl;
  routes = λ n l. tt;
  full = λ n l above. absurd (omega arith);
  pairs = pairs;
  root = refl;
  top = top;
  once = once;
  fresh = λ n some. refl;
}
  where
    chains : (level : ℕ) → IsChain (λ n. fresh_node) level (first_chain level)
    chains zero = (record { page = fresh_is; height = refl; right = refl; high = refl; wide = refl }, tt)
    chains (suc level) = tt

    pairs : (level : ℕ) → 0 < length (first_chain (level + 1)) → 1 < length (first_chain level)
    pairs level some = let none : length (first_chain (level + 1)) ≡ 0 = ap (λ l. length (first_chain l)) (add-one level) in absurd (omega arith)

    top : (level : ℕ) → 0 < level → first_chain level ≡ []
    top zero above = absurd (omega arith)
    top (suc level) above = refl

    once : (n : ℕ) → occurrences n (0 ∷ []) + 0 ≡ cond (nat_lt n 1) 1 0
    once zero = refl
    once (suc n) =
        let test : nat_lt (suc n) 1 ≡ false = grind (arith, nat_tests) in
        let count : cond {A = ℕ} (nat_lt (suc n) 1) 1 0 ≡ 0 = ap (λ (b : Bool). cond {A = ℕ} b 1 0) test in
        let gone = one_other (suc n) 0 (omega arith) in
        omega arith

module _ (old new : Forest) (h : IsForest old) (w : AllotsPage old new) where
  abbrev q : ℕ
  q = old.allotted

  apart : (level m : ℕ) → has m (old.chain level) ≡ true → m ≢ q
  apart level m t same = let below = allotted_below old h m (linked_in old h level m t) in omega arith

  same_at : (level m : ℕ) → has m (old.chain level) ≡ true → new.node m ≡ old.node m
  same_at level m t = w.others m (apart level m t)

  linked_kept : (m : ℕ) → IsLinked old m → IsLinked new m
  linked_kept m l = ap (λ (p : Node). has m (new.chain p.level)) (same_at (old.node m).level m l) ∙ ap (has m) (w.chains (old.node m).level) ∙ l

  pub allots_grown : PagesStay old new
  allots_grown = record {
    linked = linked_kept;
    level = λ m l. ap (λ (p : Node). p.level) (same_at (old.node m).level m l);
    low = λ m l. ap (λ (p : Node). p.low) (same_at (old.node m).level m l);
  }

  -- a page that is linked now was so before
  was_linked : (m : ℕ) → IsLinked new m → IsLinked old m
  was_linked m l = linked_in old h (new.node m).level m (ap (has m) (sym (w.chains (new.node m).level)) ∙ l)

  same_linked : (m : ℕ) → IsLinked new m → new.node m ≡ old.node m
  same_linked m l = same_at (old.node m).level m (was_linked m l)

  own_chain : (m : ℕ) → IsLinked new m → new.chain (new.node m).level ≡ old.chain (old.node m).level
  own_chain m l = w.chains (new.node m).level ∙ ap (λ (p : Node). old.chain p.level) (same_linked m l)

  none_of : occurrences q (old.chain (old.node q).level) ≡ 0
  none_of = elim (bool_cases (has q (old.chain (old.node q).level))) [
    | inl t ↦ absurd (apart (old.node q).level q t refl)
    | inr t ↦ no_times q (old.chain (old.node q).level) t
  ]

  none_zero : occurrences q (old.chain 0) ≡ 0
  none_zero = elim (bool_cases (has q (old.chain 0))) [
    | inl t ↦ absurd (apart 0 q t refl)
    | inr t ↦ no_times q (old.chain 0) t
  ]

  not_held : old.held q ≡ 0
  not_held =
      let all = h.once q in
      let test : nat_lt q q ≡ false = grind (arith, nat_tests) in
      let count : cond {A = ℕ} (nat_lt q q) 1 0 ≡ 0 = ap (λ (b : Bool). cond {A = ℕ} b 1 0) test in
      omega arith

  once_at : (m : ℕ) → occurrences m (new.chain (new.node m).level) + new.held m ≡ cond (nat_lt m new.allotted) 1 0
  once_at m = elim (cases_eq m q) [
    | inl e ↦ subst (λ (k : ℕ). occurrences k (new.chain (new.node k).level) + new.held k ≡ cond (nat_lt k new.allotted) 1 0) (sym e)
        (let chain = ap (occurrences q) (ap (λ (p : Node). new.chain p.level) w.fresh ∙ w.chains 0) in
        let none = none_zero in
        let held = w.held q in
        let free = not_held in
        let here = one_same q in
        let test : nat_lt q (q + 1) ≡ true = grind (arith, nat_tests) in
        let count : cond {A = ℕ} (nat_lt q new.allotted) 1 0 ≡ 1 = ap (λ (a : ℕ). cond {A = ℕ} (nat_lt q a) 1 0) w.allotted ∙ ap (λ (b : Bool). cond {A = ℕ} b 1 0) test in
        omega arith)
    | inr o ↦
        let chain = ap (occurrences m) (ap (λ (p : Node). new.chain p.level) (w.others m o) ∙ w.chains (old.node m).level) in
        let held = w.held m in
        let gone = one_other m q o in
        let all = h.once m in
        let test : nat_lt m (q + 1) ≡ nat_lt m q = grind (arith, nat_tests) in
        let count : cond {A = ℕ} (nat_lt m new.allotted) 1 0 ≡ cond {A = ℕ} (nat_lt m q) 1 0 = ap (λ (a : ℕ). cond {A = ℕ} (nat_lt m a) 1 0) w.allotted ∙ ap (λ (b : Bool). cond {A = ℕ} b 1 0) test in
        omega arith
  ]

  fresh_at : (m : ℕ) → 0 < new.held m → new.node m ≡ fresh_node
  fresh_at m some = elim (cases_eq m q) [
    | inl e ↦ ap new.node e ∙ w.fresh
    | inr o ↦ w.others m o ∙ h.fresh m (let held = w.held m in let gone = one_other m q o in omega arith)
  ]

  root_linked : has old.root (old.chain (old.node old.root).level) ≡ true
  root_linked = first_in old.root (old.chain (old.node old.root).level) h.root

  root_same : new.node old.root ≡ old.node old.root
  root_same = same_at (old.node old.root).level old.root root_linked

  pub allots_keep : IsForest new
  allots_keep = record {
    chains = λ level. subst (IsChain new.node level) (sym (w.chains level))
        (chain_same old.node new.node level (old.chain level) (all_from_has (λ m. Keeps (old.node m) (new.node m)) (old.chain level) (λ m t. keeps_same (old.node m) (new.node m) (same_at level m t))) (h.chains level));
    first = ap head (w.chains 0) ∙ h.first;
    lowest = λ level m e.
        let was : head (old.chain level) ≡ Some m = ap head (sym (w.chains level)) ∙ e in
        ap (λ (p : Node). p.low) (same_at level m (first_in m (old.chain level) was)) ∙ h.lowest level m was;
    routes = λ m l. subst (λ (p : Node). AllByRecursion (LeadsDown new p.level) p.routes) (sym (same_linked m l))
        (leads_on old new allots_grown (old.node m).level (old.node m).routes (h.routes m (was_linked m l)));
    full = λ m l above many.
        let level = ap (λ (p : Node). p.level) (same_linked m l) in
        let routes = ap (λ (p : Node). length p.routes) (same_linked m l) in
        let chain = ap length (own_chain m l) in
        let was = h.full m (was_linked m l) (omega arith) (omega arith) in
        omega arith;
    pairs = λ level some. let upper = ap length (w.chains (level + 1)) in let lower = ap length (w.chains level) in let was = h.pairs level (omega arith) in omega arith;
    root = subst (λ (r : ℕ). head (new.chain (new.node r).level) ≡ Some r) (sym w.root) (ap (λ (p : Node). head (new.chain p.level)) root_same ∙ ap head (w.chains (old.node old.root).level) ∙ h.root);
    top = λ level above.
        let same : (new.node new.root).level ≡ (old.node old.root).level = ap (λ r. (new.node r).level) w.root ∙ ap (λ (p : Node). p.level) root_same in
        w.chains level ∙ h.top level (omega arith);
    once = once_at;
    fresh = fresh_at;
  }

  pub allots_flat : all_entries new ≡ all_entries old
  allots_flat = ap (flat_map (λ m. (new.node m).entries)) (w.chains 0)
      ∙ flat_same (λ m. (new.node m).entries) (λ m. (old.node m).entries) (old.chain 0)
      (all_from_has (λ m. (new.node m).entries ≡ (old.node m).entries) (old.chain 0) (λ m t. ap (λ (p : Node). p.entries) (same_at 0 m t)))
