-- The prefixes of leaves are within the greatest depth, of the pivots that there are.
use Rattle.std.proofs.Common.{◌≡◌, ℕ, ◌<◌, ◌≤◌, List, [], ◌∷◌, ◌++◌, length, Bool, true, false, cond, not, ◌&&◌, nat_eq, nat_lt, refl, sym, ◌∙◌, subst, arith, length-append, min}
use Rattle.std.specs.Prelude.{All}
use Rattle.std.specs.List.{filter, fold, flat_map, range_with_len, AllByRecursion}
use Rattle.std.proofs.lemmas.Bool.{and_from}
use Rattle.std.proofs.lemmas.Bool.Decides.{nat_tests}
use Rattle.std.proofs.lemmas.List.Elements.{All-from_recursion}
use Rattle.std.proofs.lemmas.List.Folds.{list_all-append}
use Rattle.mi_base.specs.declared.records.LogEvent.{LogEvent}
use Rattle.mi_base.specs.declared.records.LogEvent.TheVariants.{Update as Made, Split}
use Rattle.mi_base.specs.Prefixes.{has, all_below}
use Rattle.mi_base.proofs.PivotLemmas.{all_below-range}
use Rattle.mi_base.proofs.SortingLemmas.{filter_keeps}
use Rattle.mi_tree.specs.Cells.{Grid, IsGrid, children, same_cell, split_cell, leaves_after, first_leaves, leaves, AllMaySplit}
use Rattle.mi_tree.proofs.ListLemmas.{all_map, all_weaker, all_joined, all_from_test}
use Rattle.mi_tree.proofs.LeafLemmas.{same_cell_is}

-- a prefix of at most so many of the pivots
abbrev pub Fits : ℕ → ℕ → List ℕ → Type 0
Fits n levels p = (length p ≤ levels) × (all_below n p ≡ true)

-- the children of a prefix that fits, above the greatest depth
children_fit : (n levels : ℕ) (p : List ℕ) → all_below n p ≡ true → length p < levels → AllByRecursion (Fits n levels) (children n p)
children_fit n levels p below lt =
    let one : (i : ℕ) → nat_lt i n ≡ true → Fits n levels (p ++ i ∷ []) = λ i h.
    (omega (arith, length-append p (i ∷ []), lt), list_all-append (λ x. nat_lt x n) p (i ∷ []) ∙ and_from (all_below n p) (nat_lt i n && true) below (rw h refl)) in
    all_map (λ i. p ++ i ∷ []) (Fits n levels) (filter (λ i. not (has i p)) (range_with_len 0 n))
    (filter_keeps _ (λ i. not (has i p)) (range_with_len 0 n) (all_weaker _ _ one (range_with_len 0 n) (all_from_test (λ i. nat_lt i n) (range_with_len 0 n) (all_below-range 0 n n (omega arith)))))

split_fits : (n levels : ℕ) (p : List ℕ) → length p < levels → (ls : List (List ℕ)) → AllByRecursion (Fits n levels) ls → AllByRecursion (Fits n levels) (flat_map (split_cell n p) ls)
split_fits n levels p lt [] h = tt
split_fits n levels p lt (q ∷ ls) h =
    let P : Bool → Type 0 = λ b. same_cell p q ≡ b → AllByRecursion (Fits n levels) (cond b (children n p) (q ∷ [])) in
    all_joined (Fits n levels) (split_cell n p q) (flat_map (split_cell n p) ls)
    ((elim (same_cell p q) as P [
      | true ↦ λ e. children_fit n levels p (subst (λ (x : List ℕ). all_below n x ≡ true) (sym (same_cell_is p q e)) h.0.1) lt
      | false ↦ λ e. (h.0, tt)
    ]) refl)
    (split_fits n levels p lt ls h.1)

fits_from : (g : Grid) (ls : List (List ℕ)) (log : List LogEvent) → AllMaySplit g log → AllByRecursion (Fits g.pivots g.levels) ls → AllByRecursion (Fits g.pivots g.levels) (fold (leaves_after g.pivots) ls log)
fits_from g ls [] may h = h
fits_from g ls (Made session op u ∷ log) may h = fits_from g ls log may.1 h
fits_from g ls (Split p ∷ log) may h = fits_from g (flat_map (split_cell g.pivots p) ls) log may.1 (split_fits g.pivots g.levels p may.0 ls h)

first_fits : (n levels : ℕ) → min 1 n ≤ levels → AllByRecursion (Fits n levels) (first_leaves n)
first_fits n levels le =
    let P : Bool → Type 0 = λ b. nat_eq n 0 ≡ b → AllByRecursion (Fits n levels) (cond b ([] ∷ []) (children n [])) in
    (elim (nat_eq n 0) as P [
      | true ↦ λ e. ((omega arith, refl), tt)
      | false ↦ λ e. let some : 0 < levels = grind (arith, nat_tests) in children_fit n levels [] refl some
    ]) refl

-- each leaf's prefix fits
pub leaves_fit : (g : Grid) → IsGrid g → (log : List LogEvent) → AllMaySplit g log → All (Fits g.pivots g.levels) (leaves g log)
leaves_fit g ok log may = All-from_recursion _ _ (fits_from g (first_leaves g.pivots) log may (first_fits g.pivots g.levels ok.first))
