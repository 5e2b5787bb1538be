use Rattle.std.proofs.Common.{◌≡◌, ◌+◌, ◌∙◌, ℕ, List, IsTrue, length, take, ap, arith, subst, sym}
use Rattle.mi_base.specs.Configuration.{Configuration, IsWithinLimits}
use Rattle.mi_base.specs.Permutations.{permutation_of}
use Rattle.mi_base.specs.Prefixes.{all_below}
use Rattle.mi_entries.proofs.KeyedLemmas.{below, is_grid}
use Rattle.mi_tree.proofs.CatalogLemmas.{depth_is}
use Rattle.mi_solo.proofs.copying.key_in_child.Goals as goal

pub overflow_add-len : goal.overflow_add-len
overflow_add-len c =
    let settings = c.args.settings.now in
    let limits = subst IsWithinLimits c.settings.view_is c.settings.invariant in
    let few = depth_is (length settings.pivots) settings.levels limits.levels in
    let n = few.0 in
    omega arith

pub of-child-requires-clause-few : goal.of-child-requires-clause-few
of-child-requires-clause-few c =
    let settings = c.args.settings.now in
    let limits = subst IsWithinLimits c.settings.view_is c.settings.invariant in
    let few = depth_is (length settings.pivots) settings.levels limits.levels in
    let n = few.0 in
    omega arith

pub of-child-requires-clause-within : goal.of-child-requires-clause-within
of-child-requires-clause-within c =
    let settings = c.args.settings.now in
    let limits = subst IsWithinLimits c.settings.view_is c.settings.invariant in
    let few = depth_is (length settings.pivots) settings.levels limits.levels in
    let same = c.permutation.ensures.value ∙ ap permutation_of c.requires.copied.measured.dists in
    let size : length c.permutation.result ≡ length settings.pivots = ap length same ∙ ((is_grid settings limits).perms c.args.entry.now.vector).1 in
    let n = few.1 in
    omega arith

pub cluster_number-cluster-requires-clause-pivots : goal.cluster_number-cluster-requires-clause-pivots
cluster_number-cluster-requires-clause-pivots c =
    let settings = c.args.settings.now in
    let limits = subst IsWithinLimits c.settings.view_is c.settings.invariant in
    let few = depth_is (length settings.pivots) settings.levels limits.levels in
    let same = c.permutation.ensures.value ∙ ap permutation_of c.requires.copied.measured.dists in
    let child = c.of-child.ensures ∙ ap (take (c.len.result + 1)) same in
    let pivots : c.len-pivots.result ≡ length settings.pivots = c.len-pivots.ensures ∙ ap (λ (x : Configuration). length x.pivots) c.settings.view_is in
    subst (λ (n : ℕ). IsTrue (all_below n c.of-child.result)) (sym pivots) (subst (λ (l : List ℕ). IsTrue (all_below (length settings.pivots) l)) (sym child) (below settings limits c.args.entry.now.vector (c.len.result + 1)))
