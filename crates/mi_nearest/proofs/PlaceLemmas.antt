-- The numbers of the cells, from place to place.
use Rattle.std.proofs.Common.{◌≡◌, ℕ, ◌≤◌, List, [], ◌∷◌, length, map, ◌∙◌, subst}
use Rattle.std.specs.List.{AllByRecursion}
use Rattle.std.specs.List.Sorted.{IsStrictlySortedBy}
use Rattle.std.specs.Cmp.Lexicographic.{slice_cmp}
use Rattle.std.specs.Ordering.{nat_cmp}
use Rattle.std.specs.declared.cmp.Ordering.TheVariants.{Less}
use Rattle.std.proofs.lemmas.List.Elements.{recursion_from_All}
use Rattle.mi_base.specs.declared.records.LogEvent.{LogEvent}
use Rattle.mi_base.specs.Configuration.{IsDepth}
use Rattle.mi_base.specs.Space.{Space}
use Rattle.mi_key.specs.Clusters.{cluster_of}
use Rattle.mi_key.proofs.ClusterLemmas.{cluster-cmp}
use Rattle.mi_tree.specs.declared.outcomes.Leaf.{Leaf}
use Rattle.mi_tree.specs.Catalog.{prefixes_of}
use Rattle.mi_tree.specs.Cells.{AllMaySplit, grid_of, leaves}
use Rattle.mi_tree.specs.Counting.{catalog_after, population, leaf_with}
use Rattle.mi_tree.proofs.FitLemmas.{Fits, leaves_fit}
use Rattle.mi_tree.proofs.GridLemmas.{space_is_grid}
use Rattle.mi_tree.proofs.ListLemmas.{all_map, map_twice}
use Rattle.mi_tree.proofs.OrderLemmas.{cat_in_order}

-- what comes after a prefix has the greater number
numbers_after : (n levels : ℕ) (p : List ℕ) → Fits n levels p → (ps : List (List ℕ)) → AllByRecursion (Fits n levels) ps → AllByRecursion (λ q. slice_cmp nat_cmp p q ≡ Less) ps
    → AllByRecursion (λ k. nat_cmp (cluster_of n levels p) k ≡ Less) (map (cluster_of n levels) ps)
numbers_after n levels p fit [] fits less = tt
numbers_after n levels p fit (q ∷ ps) fits less =
    (cluster-cmp n levels p q fit.0 fits.0.0 fit.1 fits.0.1 ∙ less.0, numbers_after n levels p fit ps fits.1 less.1)

numbers_ascend : (n levels : ℕ) (ps : List (List ℕ)) → AllByRecursion (Fits n levels) ps → IsStrictlySortedBy (slice_cmp nat_cmp) ps → IsStrictlySortedBy nat_cmp (map (cluster_of n levels) ps)
unfolding IsStrictlySortedBy
numbers_ascend n levels [] fits sorted = tt
numbers_ascend n levels (p ∷ ps) fits sorted = (numbers_after n levels p fits.0 ps fits.1 sorted.0, numbers_ascend n levels ps fits.1 sorted.1)

-- so do those of the leaves after a log
pub cells_ascend : (space : Space) (levels : ℕ) → length space.pivots ≤ 32 → IsDepth (length space.pivots) levels → (log : List LogEvent) → AllMaySplit (grid_of space levels) log
    → IsStrictlySortedBy nat_cmp (map (λ leaf. cluster_of (length space.pivots) levels leaf.prefix) (catalog_after (grid_of space levels) log))
cells_ascend space levels few deep log may =
    let g = grid_of space levels in
    let n = length space.pivots in
    let ls = catalog_after g log in
    let fit = recursion_from_All (Fits n levels) (leaves g log) (leaves_fit g (space_is_grid space levels few deep) log may) in
    let fits : AllByRecursion (Fits n levels) (prefixes_of ls) = all_map (λ (l : Leaf). l.prefix) (Fits n levels) ls (all_map (leaf_with g (population g log)) (λ (l : Leaf). Fits n levels l.prefix) (leaves g log) fit) in
    subst (IsStrictlySortedBy nat_cmp) (map_twice (cluster_of n levels) (λ (l : Leaf). l.prefix) ls) (numbers_ascend n levels (prefixes_of ls) fits (cat_in_order g log))
