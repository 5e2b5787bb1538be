use Rattle.std.proofs.Common.{ap, ◌∙◌}
use Rattle.std.specs.Ordering.{nat_cmp}
use Rattle.mi_key.specs.Clusters.{cluster_of}
use Rattle.mi_key.proofs.ClusterLemmas.{cluster-cmp}
use Rattle.mi_key.proofs.clusters.compare_prefixes.Goals as goal

pub returns-clause-prefixes : goal.returns-clause-prefixes
returns-clause-prefixes c =
    c.cmp.ensures ∙ ap (λ n. nat_cmp n c.cluster_number-2.result) c.cluster_number.ensures.number ∙ ap (nat_cmp (cluster_of c.args.pivots c.args.levels c.args.a.now)) c.cluster_number-2.ensures.number
    ∙ cluster-cmp c.args.pivots c.args.levels c.args.a.now c.args.b.now c.requires.a_depth c.requires.b_depth c.requires.a_pivots c.requires.b_pivots
