-- A space places its vectors as a grid does.
use Rattle.std.proofs.Common.{◌≡◌, ℕ, ℤ, ◌≤◌, suc, zero, List, length, ◌∙◌, arith, min, IsTrue}
use Rattle.std.proofs.lemmas.List.{length-map}
use Rattle.mi_base.specs.Permutations.{is_permutation, distances, permutation_of}
use Rattle.mi_base.specs.Configuration.{IsDepth}
use Rattle.mi_base.specs.Space.{Space}
use Rattle.mi_base.proofs.PivotLemmas.{length-permutation_of, is_permutation-permutation_of}
use Rattle.mi_tree.specs.Cells.{IsGrid, grid_of}
use Rattle.mi_tree.proofs.CatalogLemmas.{depth_is}

-- the first leaves are not too deep
first_deep : (n levels : ℕ) → IsDepth n levels → min 1 n ≤ levels
first_deep zero levels h = omega arith
first_deep (suc n) levels h = let m = h.0 in omega arith

-- the permutations of a space are those of all its pivots
pub space_is_grid : (space : Space) (levels : ℕ) → length space.pivots ≤ 32 → IsDepth (length space.pivots) levels → IsGrid (grid_of space levels)
space_is_grid space levels few depth =
    let size : (v : List ℤ) → length (distances space v) ≡ length space.pivots = λ v. length-map space.pivots (λ p. space.metric.d v p) in
    let perms : (v : List ℤ) → IsTrue (is_permutation (permutation_of (distances space v))) × (length (permutation_of (distances space v)) ≡ length space.pivots) =
    λ v. (is_permutation-permutation_of (distances space v) (omega (arith, size v, few)), length-permutation_of (distances space v) ∙ size v) in
    record { perms = perms; levels = (depth_is (length space.pivots) levels depth).1; first = first_deep (length space.pivots) levels depth }
