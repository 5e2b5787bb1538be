-- Chains of pages: the keys of later pages are past the range of an earlier one.
use Rattle.std.proofs.Common.{◌≡◌, ◌≢◌, ℕ, ◌<◌, ◌≤◌, List, [], ◌∷◌, ◌++◌, Bool, true, false, ◌||◌, nat_eq, Option, Some, None, IsTrue, refl, sym, ap, ◌∙◌, subst, arith}
use Rattle.std.specs.List.{AllByRecursion, flat_map}
use Rattle.std.proofs.lemmas.Bool.{eqb-true, false≢true}
use Rattle.std.proofs.lemmas.Bool.Decides.{nat_tests}
use Rattle.mi_base.specs.Prefixes.{has}
use Rattle.mi_page.specs.Keys.{Ascending, AreOrdered, IsInside, is_below}
use Rattle.mi_page.specs.Nodes.{Node, IsNode}
use Rattle.mi_tree.proofs.ListLemmas.{all_weaker, all_joined}
use Rattle.mi_forest.specs.Forests.{IsChain}

-- a key in a range is below each key past its end
pub below_less : (high : Option ℕ) (k j : ℕ) → IsTrue (is_below high k) → is_below high j ≡ false → k < j
below_less None k j b p = absurd (false≢true (sym p))
below_less (Some h) k j b p = grind (arith, nat_tests)

pub past_end : (high h j : ℕ) → high ≤ h → h ≤ j → is_below (Some high) j ≡ false
past_end high h j a b = grind (arith, nat_tests)

pub in_front : (high : Option ℕ) (low h : ℕ) → high ≡ Some h → IsTrue (is_below high low) → low < h
in_front high low h e w = let r : IsTrue (is_below (Some h) low) = subst (λ (x : Option ℕ). IsTrue (is_below x low)) e w in grind (arith, nat_tests)

-- two lists in key order, the second above the first
pub ascending_joined : (xs ys : List ℕ) → Ascending xs → Ascending ys → AllByRecursion (λ x. AllByRecursion (λ y. x < y) ys) xs → Ascending (xs ++ ys)
ascending_joined [] ys a b h = b
ascending_joined (x ∷ xs) ys a b h = (all_joined (λ y. x < y) xs ys a.0 h.0, ascending_joined xs ys a.1 b h.1)

module _ (node : ℕ → Node) (level : ℕ) where
  -- the low keys rise
  pub lows_rise : (n : ℕ) (rest : List ℕ) → IsChain node level (n ∷ rest) → AllByRecursion (λ m. (node n).low < (node m).low) rest
  lows_rise n [] c = tt
  lows_rise n (m ∷ ms) c =
      let lt : (node n).low < (node m).low = in_front (node n).high (node n).low (node m).low c.0.high c.0.wide in
      (lt, all_weaker (λ j. (node m).low < (node j).low) (λ j. (node n).low < (node j).low) (λ j l. omega arith) ms (lows_rise m ms c.1))

  -- the pages after one have low keys past its end
  pub past_lows : (n : ℕ) (rest : List ℕ) → IsChain node level (n ∷ rest) → AllByRecursion (λ m. is_below (node n).high (node m).low ≡ false) rest
  past_lows n [] c = tt
  past_lows n (m ∷ ms) c =
      subst (λ (h : Option ℕ). AllByRecursion (λ j. is_below h (node j).low ≡ false) (m ∷ ms)) (sym c.0.high) (
        past_end (node m).low (node m).low (node m).low (omega arith) (omega arith),
        all_weaker (λ j. (node m).low < (node j).low) (λ j. is_below (Some (node m).low) (node j).low ≡ false) (λ j l. past_end (node m).low (node j).low (node j).low (omega arith) (omega arith)) ms (lows_rise m ms c.1),
      )

  -- keys of pages, in order inside each range
  module _ (keys : Node → List ℕ) (ordered : (p : Node) → IsNode p → AreOrdered p.low p.high (keys p)) where
    abbrev pub all_keys : List ℕ → List ℕ
    all_keys ns = flat_map (λ n. keys (node n)) ns

    pub keys_from : (lo : ℕ) (ns : List ℕ) → AllByRecursion (λ m. lo ≤ (node m).low) ns → IsChain node level ns → AllByRecursion (λ k. lo ≤ k) (all_keys ns)
    keys_from lo [] h c = tt
    keys_from lo (n ∷ ns) h c =
        all_joined (λ k. lo ≤ k) (keys (node n)) (all_keys ns)
        (all_weaker (IsInside (node n).low (node n).high) (λ k. lo ≤ k) (λ k i. let l = i.from_low in let g = h.0 in omega arith) (keys (node n)) (ordered (node n) c.0.page).inside)
        (keys_from lo ns h.1 c.1)

    -- the keys of the pages after one are past its end
    pub past : (n : ℕ) (rest : List ℕ) → IsChain node level (n ∷ rest) → AllByRecursion (λ j. is_below (node n).high j ≡ false) (all_keys rest)
    past n [] c = tt
    past n (m ∷ ms) c =
        subst (λ (h : Option ℕ). AllByRecursion (λ j. is_below h j ≡ false) (all_keys (m ∷ ms))) (sym c.0.high)
        (all_weaker (λ k. (node m).low ≤ k) (λ j. is_below (Some (node m).low) j ≡ false) (λ j l. past_end (node m).low (node m).low j (omega arith) l) (all_keys (m ∷ ms))
        (keys_from (node m).low (m ∷ ms) (omega arith, all_weaker (λ j. (node m).low < (node j).low) (λ j. (node m).low ≤ (node j).low) (λ j l. omega arith) ms (lows_rise m ms c.1)) c.1))

    pub chain_ascends : (ns : List ℕ) → IsChain node level ns → Ascending (all_keys ns)
    chain_ascends [] c = tt
    chain_ascends (n ∷ rest) c =
        ascending_joined (keys (node n)) (all_keys rest) (ordered (node n) c.0.page).ascend (chain_ascends rest c.1)
        (all_weaker (IsInside (node n).low (node n).high) (λ x. AllByRecursion (λ y. x < y) (all_keys rest))
        (λ k i. all_weaker (λ j. is_below (node n).high j ≡ false) (λ j. k < j) (λ j p. below_less (node n).high k j i.below_high p) (all_keys rest) (past n rest c))
        (keys (node n)) (ordered (node n) c.0.page).inside)

-- a chain around one of its pages
pub record Around (node : ℕ → Node) (keys : Node → List ℕ) (n : ℕ) (ns : List ℕ) : Type 0 where
  pub before : List ℕ
  pub behind : List ℕ
  pub is : ns ≡ before ++ n ∷ behind
  pub below : AllByRecursion (λ k. k < (node n).low) (flat_map (λ m. keys (node m)) before)
  pub above : AllByRecursion (λ k. is_below (node n).high k ≡ false) (flat_map (λ m. keys (node m)) behind)
  pub apart_before : AllByRecursion (λ m. m ≢ n) before
  pub apart_behind : AllByRecursion (λ m. m ≢ n) behind

-- a fact of each element, of one that stands there
pub all_has : (P : ℕ → Type 0) (n : ℕ) (ns : List ℕ) → AllByRecursion P ns → has n ns ≡ true → P n
all_has P n [] a h = absurd (false≢true h)
all_has P n (m ∷ ms) a h =
    let Q : Bool → Type 0 = λ b. nat_eq m n ≡ b → (b || has n ms) ≡ true → P n in
    (elim (nat_eq m n) as Q [ true ↦ λ e _. subst P (eqb-true m n e) a.0 | false ↦ λ _ t. all_has P n ms a.1 t ]) refl h

pub around : (node : ℕ → Node) (level : ℕ) (keys : Node → List ℕ) → ((p : Node) → IsNode p → AreOrdered p.low p.high (keys p)) → (n : ℕ) (ns : List ℕ) → IsChain node level ns → has n ns ≡ true → Around node keys n ns
around node level keys ordered n [] c h = absurd (false≢true h)
around node level keys ordered n (m ∷ ms) c h =
    let Q : Bool → Type 0 = λ b. nat_eq m n ≡ b → (b || has n ms) ≡ true → Around node keys n (m ∷ ms) in
    (elim (nat_eq m n) as Q [
      | true ↦ λ e _.
          subst (λ (k : ℕ). Around node keys k (m ∷ ms)) (eqb-true m n e) (record {
            before = [];
            behind = ms;
            is = refl;
            below = tt;
            above = past node level keys ordered m ms c;
            apart_before = tt;
            apart_behind = all_weaker (λ j. (node m).low < (node j).low) (λ j. j ≢ m) (λ j l same. let low = ap (λ i. (node i).low) same in omega arith) ms (lows_rise node level m ms c);
          })
      | false ↦ λ e t.
          let r = around node level keys ordered n ms c.1 t in
          let last = all_has (λ j. is_below (node m).high (node j).low ≡ false) n ms (past_lows node level m ms c) t in
          record {
            before = m ∷ r.before;
            behind = r.behind;
            is = ap (λ js. m ∷ js) r.is;
            below = all_joined (λ k. k < (node n).low) (keys (node m)) (flat_map (λ j. keys (node j)) r.before)
                (all_weaker (IsInside (node m).low (node m).high) (λ k. k < (node n).low) (λ k i. below_less (node m).high k (node n).low i.below_high last) (keys (node m)) (ordered (node m) c.0.page).inside)
                r.below;
            above = r.above;
            apart_before = ((λ same. let eq : nat_eq m n ≡ true = grind (arith, nat_tests) in false≢true (sym e ∙ eq)), r.apart_before);
            apart_behind = r.apart_behind;
          }
    ]) refl h
