-- A full page gives its upper half to a fresh one.
use Rattle.std.proofs.Common.{◌≡◌, ◌≢◌, ℕ, ◌<◌, List, [], ◌∷◌, ◌++◌, take, drop, Bool, true, false, cond, nat_eq, Some, refl, sym, ap, ◌∙◌, subst, arith, append_assoc}
use Rattle.std.specs.List.{AllByRecursion, flat_map}
use Rattle.std.proofs.lemmas.Bool.{eqb-true, false≢true, lt-ltb}
use Rattle.std.proofs.lemmas.List.{take-append-drop}
use Rattle.mi_key.specs.declared.entries.Entry.{Entry}
use Rattle.mi_page.specs.Nodes.{Node, IsNode, lower_half, upper_half, item_count, middle_key}
use Rattle.mi_page.proofs.HalfLemmas.{lower_part, upper_part, middle_inside}
use Rattle.mi_tree.proofs.ListLemmas.{all_weaker, flat_same}
use Rattle.mi_forest.specs.Forests.{IsChain, head_low}
use Rattle.mi_forest.specs.Changes.{put_after}
use Rattle.mi_forest.proofs.ChainLemmas.{lows_rise}
use Rattle.mi_forest.proofs.ListLemmas.{all_two}
use Rattle.mi_forest.proofs.NumberLemmas.{next_after}
use Rattle.mi_forest.proofs.KeepLemmas.{Keeps, keeps_same, low_same, wide_same, chain_same}

-- a page and the half of it that moves, in the place of the page
module _ (node new : ℕ → Node) (level n q : ℕ) (full : item_count (node n) ≡ 32) (lower : new n ≡ lower_half q (node n)) (upper : new q ≡ upper_half (node n))
    (others : (m : ℕ) → m ≢ n → m ≢ q → new m ≡ node m) where
  rest_keeps : (ms : List ℕ) → IsChain node level (n ∷ ms) → AllByRecursion (λ m. m ≢ q) ms → AllByRecursion (λ m. new m ≡ node m) ms
  rest_keeps ms c a = all_two (λ m. (node n).low < (node m).low) (λ m. m ≢ q) (λ m. new m ≡ node m)
      (λ m l o. others m (λ same. let low = ap (λ i. (node i).low) same in omega arith) o) ms (lows_rise node level n ms c) a

  low_after : (ns : List ℕ) → AllByRecursion (λ m. m ≢ q) ns → head_low node ns ≡ head_low new (put_after n q ns)
  low_after [] a = refl
  low_after (m ∷ ms) a =
      let P : Bool → Type 0 = λ b. nat_eq m n ≡ b → Some (node m).low ≡ head_low new (cond b (m ∷ q ∷ ms) (m ∷ put_after n q ms)) in
      (elim (nat_eq m n) as P [
        | true ↦ λ e. ap Some (subst (λ (k : ℕ). (node k).low ≡ (new k).low) (sym (eqb-true m n e)) (sym (ap (λ (p : Node). p.low) lower)))
        | false ↦ λ e. ap (λ (p : Node). Some p.low) (sym (others m (λ same. false≢true (sym e ∙ ap (λ i. nat_eq i n) same ∙ here)) a.0))
      ]) refl
    where
      here : nat_eq n n ≡ true
      here = grind arith

  halves_chain : (ms : List ℕ) → IsChain node level (n ∷ ms) → AllByRecursion (λ m. m ≢ q) ms → IsChain new level (n ∷ q ∷ ms)
  halves_chain ms c a =
      let s = c.0 in
      let mid = middle_inside (node n) s.page full in
      let rest = all_weaker (λ m. new m ≡ node m) (λ m. Keeps (node m) (new m)) (λ m e. keeps_same (node m) (new m) e) ms (rest_keeps ms c a) in (
        record {
          page = subst IsNode (sym lower) (lower_part (node n) s.page full q).0;
          height = ap (λ (p : Node). p.level) lower ∙ s.height;
          right = ap (λ (p : Node). p.right) lower;
          high = ap (λ (p : Node). p.high) lower ∙ ap (λ (p : Node). Some p.low) (sym upper);
          wide = wide_same (lower_half q (node n)) (new n) (ap (λ (p : Node). p.high) lower) (ap (λ (p : Node). p.low) lower) (lt-ltb (node n).low (middle_key (node n)) mid.1);
        },
        (
          record {
            page = subst IsNode (sym upper) (upper_part (node n) s.page full).0;
            height = ap (λ (p : Node). p.level) upper ∙ s.height;
            right = ap (λ (p : Node). p.right) upper ∙ s.right;
            high = ap (λ (p : Node). p.high) upper ∙ s.high ∙ low_same node new ms rest;
            wide = wide_same (upper_half (node n)) (new q) (ap (λ (p : Node). p.high) upper) (ap (λ (p : Node). p.low) upper) mid.0.below_high;
          },
          chain_same node new level ms rest c.1,
        ),
      )

  pub halved_chain : (ns : List ℕ) → IsChain node level ns → AllByRecursion (λ m. m ≢ q) ns → IsChain new level (put_after n q ns)
  halved_chain [] c a = tt
  halved_chain (m ∷ ms) c a =
      let P : Bool → Type 0 = λ b. nat_eq m n ≡ b → IsChain new level (cond b (m ∷ q ∷ ms) (m ∷ put_after n q ms)) in
      (elim (nat_eq m n) as P [
        | true ↦ λ e.
            let is : m ≡ n = eqb-true m n e in
            subst (λ (k : ℕ). IsChain new level (k ∷ q ∷ ms)) (sym is) (halves_chain ms (subst (λ (k : ℕ). IsChain node level (k ∷ ms)) is c) a.1)
        | false ↦ λ e.
            let same : new m ≡ node m = others m (λ i. false≢true (sym e ∙ ap (λ j. nat_eq j n) i ∙ here)) a.0 in (
              record {
                page = subst IsNode (sym same) c.0.page;
                height = ap (λ (p : Node). p.level) same ∙ c.0.height;
                right = ap (λ (p : Node). p.right) same ∙ c.0.right ∙ sym (next_after n q ms);
                high = ap (λ (p : Node). p.high) same ∙ c.0.high ∙ low_after ms a.1;
                wide = wide_same (node m) (new m) (ap (λ (p : Node). p.high) same) (ap (λ (p : Node). p.low) same) c.0.wide;
              },
              halved_chain ms c.1 a.1,
            )
      ]) refl
    where
      here : nat_eq n n ≡ true
      here = grind arith

  -- no entry is lost or moved
  pub halved_entries : (ns : List ℕ) → IsChain node level ns → AllByRecursion (λ m. m ≢ q) ns → flat_map (λ m. (new m).entries) (put_after n q ns) ≡ flat_map (λ m. (node m).entries) ns
  halved_entries [] c a = refl
  halved_entries (m ∷ ms) c a =
      let P : Bool → Type 0 = λ b. nat_eq m n ≡ b → flat_map (λ j. (new j).entries) (cond b (m ∷ q ∷ ms) (m ∷ put_after n q ms)) ≡ flat_map (λ j. (node j).entries) (m ∷ ms) in
      (elim (nat_eq m n) as P [
        | true ↦ λ e.
            let is : m ≡ n = eqb-true m n e in
            let rest : flat_map (λ j. (new j).entries) ms ≡ flat_map (λ j. (node j).entries) ms =
            flat_same (λ j. (new j).entries) (λ j. (node j).entries) ms (all_weaker (λ j. new j ≡ node j) (λ j. (new j).entries ≡ (node j).entries) (λ j s. ap (λ (p : Node). p.entries) s) ms
            (rest_keeps ms (subst (λ (k : ℕ). IsChain node level (k ∷ ms)) is c) a.1)) in
            let old : flat_map (λ j. (node j).entries) ms ≡ flat_map (λ j. (node j).entries) ms = refl in
            let es : List Entry = flat_map (λ j. (node j).entries) ms in
            ap (λ zs. (new m).entries ++ ((new q).entries ++ zs)) rest
            ∙ ap (λ k. (new k).entries ++ ((new q).entries ++ es)) is
            ∙ ap (λ zs. zs ++ ((new q).entries ++ es)) (ap (λ (p : Node). p.entries) lower)
            ∙ ap (λ zs. take 16 (node n).entries ++ (zs ++ es)) (ap (λ (p : Node). p.entries) upper)
            ∙ sym (append_assoc (take 16 (node n).entries) (drop 16 (node n).entries) es)
            ∙ ap (λ zs. zs ++ es) (take-append-drop 16 (node n).entries)
            ∙ ap (λ k. (node k).entries ++ es) (sym is)
        | false ↦ λ e.
            let same : new m ≡ node m = others m (λ i. false≢true (sym e ∙ ap (λ j. nat_eq j n) i ∙ here)) a.0 in
            ap (λ (p : Node). p.entries ++ flat_map (λ j. (new j).entries) (put_after n q ms)) same ∙ ap (λ zs. (node m).entries ++ zs) (halved_entries ms c.1 a.1)
      ]) refl
    where
      here : nat_eq n n ≡ true
      here = grind arith
