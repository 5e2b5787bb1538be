use Rattle.std.proofs.Common.{◌≡◌, ◌∙◌, length, arith, ap, subst}
use Rattle.mi_base.specs.Configuration.{Configuration, IsWithinLimits}
use Rattle.mi_key.specs.Clusters.{cluster_of}
use Rattle.mi_key.proofs.ClusterLemmas.{cluster-small}
use Rattle.mi_tree.proofs.CatalogLemmas.{depth_is}
use Rattle.mi_solo.proofs.cell_keys.cell_number.Goals as goal

pub returns-clause-small : goal.returns-clause-small
returns-clause-small c =
    let settings = c.args.settings.now in
    let limits = subst IsWithinLimits c.settings.view_is c.settings.invariant in
    let number : c.cluster_number.result ≡ cluster_of (length settings.pivots) settings.levels c.args.leaf.now =
    c.cluster_number.ensures.number ∙ ap (λ n. cluster_of n c.settings.inside.levels c.args.leaf.now) c.len-pivots.ensures
    ∙ ap (λ (x : Configuration). cluster_of (length x.pivots) x.levels c.args.leaf.now) c.settings.view_is in
    let small = cluster-small (length settings.pivots) settings.levels c.args.leaf.now limits.few_pivots (depth_is (length settings.pivots) settings.levels limits.levels).0 c.requires.pivots in
    omega arith
