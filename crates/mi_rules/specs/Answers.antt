-- Which objects belong to a query's answer, and where they are kept.
use Rattle.std.specs.Prelude.{◌≡◌, ◌≤◌, ℕ, ℤ, List, IsTrue, true}
use Rattle.std.specs.List.{AllByRecursion}
use Rattle.mi_base.specs.Permutations.{begins, distances, key_distance, permutation_of}
use Rattle.mi_base.specs.Space.{IsMetric, MetricSpace, Space}
use Rattle.mi_tree.specs.declared.outcomes.Leaf.{Leaf}
use Rattle.mi_tree.specs.Counting.{in_hull}

-- the object is at most the radius away from the query, by a metric that both and all pivots fit
pub record IsAnswer (space : Space) (query object : List ℤ) (radius : ℕ) : Type 0 where
  pub metric : IsMetric space.metric
  pub pivots_fit : AllByRecursion (λ p. IsTrue (space.metric.fits p)) space.pivots
  pub query_fits : IsTrue (space.metric.fits query)
  pub object_fits : IsTrue (space.metric.fits object)
  pub near : space.metric.d query object ≤ radius

-- an object with these distances to the pivots may be kept in the leaf: its prefix begins their order, and its hull has the first
pub record MayHold (leaf : Leaf) (dists : List ℕ) : Type 0 where
  pub begun : begins leaf.prefix (permutation_of dists) ≡ true
  pub covered : in_hull (key_distance dists) leaf.hull ≡ true

-- the distances of a query and of an object are those to one list of pivots that fit
pub record AreMeasured (m : MetricSpace) (query : List ℤ) (dq : List ℕ) (object : List ℤ) (dists : List ℕ) : Type 0 where
  pub pivots : List (List ℤ)
  pub pivots_fit : AllByRecursion (λ p. IsTrue (m.fits p)) pivots
  pub of_query : dq ≡ distances (record { metric = m; pivots = pivots }) query
  pub of_object : dists ≡ distances (record { metric = m; pivots = pivots }) object

-- a query may be compared with an object: the metric is for both, and their distances to the pivots are measured alike
pub record Comparable (m : MetricSpace) (query : List ℤ) (dq : List ℕ) (object : List ℤ) (dists : List ℕ) : Type 0 where
  pub query_fits : IsTrue (m.fits query)
  pub object_fits : IsTrue (m.fits object)
  pub measured : AreMeasured m query dq object dists
