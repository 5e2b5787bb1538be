use Rattle.std.proofs.Common.{ap, sym, ◌∙◌}
use Rattle.std.proofs.lemmas.Bool.{eqb-true, eq-eqb}
use Rattle.mi_key.specs.Clusters.{cluster_of}
use Rattle.mi_key.proofs.ClusterLemmas.{cluster-exact}
use Rattle.mi_key.proofs.clusters.same_cluster.Goals as goal

pub returns-clause-prefixes : goal.returns-clause-prefixes
returns-clause-prefixes c = (
  λ h.
      cluster-exact c.args.pivots c.args.levels c.args.a.now c.args.b.now c.requires.a_depth c.requires.b_depth c.requires.a_pivots c.requires.b_pivots
      (sym c.cluster_number.ensures.number ∙ eqb-true c.cluster_number.result c.cluster_number-2.result h ∙ c.cluster_number-2.ensures.number),
  λ e. eq-eqb c.cluster_number.result c.cluster_number-2.result (c.cluster_number.ensures.number ∙ ap (cluster_of c.args.pivots c.args.levels) e ∙ sym c.cluster_number-2.ensures.number),
)
