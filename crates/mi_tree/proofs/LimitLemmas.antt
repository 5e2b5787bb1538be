-- Bounds that the limits of the settings give: how long a legal log is, and how many leaves there are.
use Rattle.std.proofs.Common.{◌≡◌, ℕ, suc, ◌+◌, ◌*◌, ◌<◌, ◌≤◌, List, [], ◌∷◌, ◌++◌, length, take, get_or, Bool, true, false, cond, not, ◌&&◌, nat_eq, nat_lt, refl, sym, ap, ◌∙◌, subst, arith, length-append}
use Rattle.std.specs.Prelude.{slice_get, Some, count_by}
use Rattle.std.specs.List.{AllByRecursion, filter, flat_map, fold, range_with_len}
use Rattle.std.proofs.lemmas.Bool.{false≢true}
use Rattle.std.proofs.lemmas.Bool.Decides.{nat_tests}
use Rattle.std.proofs.lemmas.List.{length-map, take_more}
use Rattle.std.proofs.lemmas.List.Sums.{count_by_more_yes, count_by_more_no}
use Rattle.std.proofs.lemmas.Option.{slice_get_within, slice_get-get_or}
use Rattle.std.proofs.lemmas.List.FromFn.{length-range_with_len}
use Rattle.std.proofs.lemmas.Nat.{mul-le}
use Rattle.mi_base.specs.declared.records.LogEvent.{LogEvent}
use Rattle.mi_base.specs.declared.records.LogEvent.TheVariants.{Update as Made, Split}
use Rattle.mi_base.specs.Configuration.{Configuration, IsWithinLimits, space_of}
use Rattle.mi_base.specs.Prefixes.{has}
use Rattle.mi_base.proofs.LiveLemmas.{length_filter}
use Rattle.mi_tree.specs.declared.outcomes.Leaf.{Leaf}
use Rattle.mi_tree.specs.Cells.{IsGrid, children, same_cell, split_cell, leaves_after, first_leaves, leaves}
use Rattle.mi_tree.specs.Counting.{population, leaf_with}
use Rattle.mi_tree.specs.Legal.{LegalLog, cells_of}
use Rattle.mi_tree.specs.Placing.{grid_under}
use Rattle.mi_tree.specs.Order.{before, in_order}
use Rattle.std.proofs.lemmas.List.Elements.{recursion_from_All}
use Rattle.mi_tree.proofs.FitLemmas.{Fits, leaves_fit}
use Rattle.mi_tree.proofs.ListLemmas.{all_get, all_map}
use Rattle.mi_tree.proofs.LeafLemmas.{same_cell_is}
use Rattle.mi_tree.proofs.LegalLemmas.{all_may}
use Rattle.mi_tree.proofs.OrderLemmas.{StandInOrder, order_from_test, split_keeps_order, first_leaves_in_order}
use Rattle.mi_tree.proofs.CatalogLemmas.{depth_is}
use Rattle.mi_tree.proofs.GridLemmas.{space_is_grid}
use Rattle.mi_tree.proofs.SplitsLemmas.{few_splits}

-- nothing comes before itself
never_before : (p : List ℕ) → before p p ≡ false
never_before [] = refl
never_before (x ∷ p) =
    let not_below : nat_lt x x ≡ false = grind (arith, nat_tests) in
    let rest = never_before p in
    let P : Bool → Type 0 = λ b. (b && before p p) ≡ false in
    rw not_below (elim (nat_eq x x) as P [ true ↦ rest | false ↦ refl ])

-- what all come before is none of them
none_same : (p : List ℕ) (ls : List (List ℕ)) → AllByRecursion (λ q. before p q ≡ true) ls → filter (same_cell p) ls ≡ []
none_same p [] h = refl
none_same p (q ∷ ls) h =
    let P : Bool → Type 0 = λ b. same_cell p q ≡ b → cond b (q ∷ filter (same_cell p) ls) (filter (same_cell p) ls) ≡ [] in
    (elim (same_cell p q) as P [
      | true ↦ λ e. absurd (false≢true (sym (never_before p) ∙ subst (λ (x : List ℕ). before p x ≡ true) (sym (same_cell_is p q e)) h.0))
      | false ↦ λ e. none_same p ls h.1
    ]) refl

-- no prefix stands twice
few_same : (p : List ℕ) (ls : List (List ℕ)) → StandInOrder ls → length (filter (same_cell p) ls) ≤ 1
few_same p [] h = omega arith
few_same p (q ∷ ls) h =
    let P : Bool → Type 0 = λ b. same_cell p q ≡ b → length (cond b (q ∷ filter (same_cell p) ls) (filter (same_cell p) ls)) ≤ 1 in
    (elim (same_cell p q) as P [
      | true ↦ λ e.
          let same : q ≡ p = sym (same_cell_is p q e) in
          let none = none_same p ls (subst (λ (x : List ℕ). AllByRecursion (λ y. before x y ≡ true) ls) same h.0) in
          omega (arith, ap length none)
      | false ↦ λ e. few_same p ls h.1
    ]) refl

-- one time more
more : (n k : ℕ) → n * suc k ≡ n * k + n
more n k = omega arith

-- a prefix has no more children than there are pivots
few_children : (n : ℕ) (p : List ℕ) → length (children n p) ≤ n
few_children n p =
    omega (arith, length-map (filter (λ i. not (has i p)) (range_with_len 0 n)) (λ i. p ++ i ∷ []), length_filter (λ i. not (has i p)) (range_with_len 0 n), length-range_with_len 0 n)

split_few : (n : ℕ) (p : List ℕ) (ls : List (List ℕ)) → length (flat_map (split_cell n p) ls) ≤ length ls + n * length (filter (same_cell p) ls)
split_few n p [] = omega arith
split_few n p (q ∷ ls) =
    let rest = split_few n p ls in
    let size = length-append (split_cell n p q) (flat_map (split_cell n p) ls) in
    let P : Bool → Type 0 = λ b. length (cond b (children n p) (q ∷ [])) + (length ls + n * length (filter (same_cell p) ls))
    ≤ suc (length ls) + n * length (cond b (q ∷ filter (same_cell p) ls) (filter (same_cell p) ls)) in
    let one = elim (same_cell p q) as P [
      | true ↦ omega (arith, few_children n p, more n (length (filter (same_cell p) ls)))
      | false ↦ omega arith
    ] in
    omega (arith, rest, size, one)

few_from : (n : ℕ) (ls : List (List ℕ)) (log : List LogEvent) → in_order ls ≡ true → length (fold (leaves_after n) ls log) ≤ length ls + n * length log
few_from n ls [] order = omega arith
few_from n ls (Made session op u ∷ log) order = omega (arith, few_from n ls log order, more n (length log))
few_from n ls (Split p ∷ log) order =
    let rest = few_from n (flat_map (split_cell n p) ls) log (split_keeps_order n p ls order) in
    let one : n * length (filter (same_cell p) ls) ≤ n * 1 = mul-le n (length (filter (same_cell p) ls)) n 1 (omega arith) (few_same p ls (order_from_test ls order)) in
    omega (arith, rest, split_few n p ls, one, more n (length log))

first_few : (n : ℕ) → length (first_leaves n) ≤ n + 1
first_few n =
    let P : Bool → Type 0 = λ b. length (cond b ([] ∷ []) (children n [])) ≤ n + 1 in
    elim (nat_eq n 0) as P [ true ↦ omega arith | false ↦ omega (arith, few_children n []) ]

module _ (c : Configuration) (limits : IsWithinLimits c) (log : List LogEvent) (legal : LegalLog c log) where
  pub is_grid : IsGrid (grid_under c)
  is_grid = space_is_grid (space_of c) c.levels limits.few_pivots limits.levels

  -- a log is short
  pub log_short : length log ≤ 1400000
  log_short =
      let most : c.updates * c.levels ≤ 200000 * 6 = mul-le c.updates c.levels 200000 6 limits.updates.1 (depth_is (length c.pivots) c.levels limits.levels).0 in
      omega (arith, few_splits c log is_grid legal, legal.few, limits.updates.1, most)

  -- the leaves are few enough to be counted in 32 bits
  pub few_cells : length (cells_of c log) < 4294967295
  few_cells =
      let g = grid_under c in
      let n = length c.pivots in
      let all = few_from n (first_leaves n) log (first_leaves_in_order n) in
      let most : n * length log ≤ 32 * 1400000 = mul-le n (length log) 32 1400000 limits.few_pivots log_short in
      omega (arith, all, most, first_few n, limits.few_pivots, length-map (leaves g log) (leaf_with g (population g log)))

  -- the prefix of each is of at most so many of the pivots
  pub cells_fit : AllByRecursion (λ (l : Leaf). Fits (length c.pivots) c.levels l.prefix) (cells_of c log)
  cells_fit =
      let g = grid_under c in
      all_map (leaf_with g (population g log)) (λ l. Fits (length c.pivots) c.levels l.prefix) (leaves g log)
      (recursion_from_All (Fits g.pivots g.levels) (leaves g log) (leaves_fit g is_grid log (all_may c log legal)))

-- the leaf at a place fits
pub leaf_fits : (c : Configuration) → IsWithinLimits c → (log : List LogEvent) → LegalLog c log → (ls : List Leaf) → ls ≡ cells_of c log → (i : ℕ) (leaf : Leaf) → slice_get ls i ≡ Some leaf → Fits (length c.pivots) c.levels leaf.prefix
leaf_fits c limits log legal ls same i leaf at =
    all_get (λ (l : Leaf). Fits (length c.pivots) c.levels l.prefix) ls i leaf (subst (AllByRecursion (λ (l : Leaf). Fits (length c.pivots) c.levels l.prefix)) (sym same) (cells_fit c limits log legal)) at
