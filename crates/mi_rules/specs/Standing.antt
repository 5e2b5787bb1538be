-- Live objects in their leaves.
use Rattle.std.specs.Prelude.{◌≡◌, ℕ, IsTrue, List, length, map}
use Rattle.std.specs.List.{AllByRecursion}
use Rattle.mi_base.specs.declared.records.LogEvent.{LogEvent}
use Rattle.mi_base.specs.Configuration.{Configuration, metric_space, space_of}
use Rattle.mi_base.specs.History.{live, updates_of}
use Rattle.mi_base.specs.Permutations.{distances}
use Rattle.mi_base.specs.Sorting.{SameElements}
use Rattle.mi_key.specs.Clusters.{cluster_of}
use Rattle.mi_key.specs.Keys.{parts_of}
use Rattle.mi_key.specs.Shown.{Shown, object_shown}
use Rattle.mi_tree.specs.Cells.{leaf_of}
use Rattle.mi_tree.specs.Placing.{grid_under}

-- An object stands in its leaf after a log: the metric is for it, it has its distances to the pivots, and its key tells the leaf that
-- it belongs to and its distance to the nearest pivot.
pub record StandsInLeaf (c : Configuration) (log : List LogEvent) (s : Shown) : Type 0 where
  pub fits : IsTrue ((metric_space c).fits s.offering.object.vector)
  pub dists_are : s.offering.dists ≡ distances (space_of c) s.offering.object.vector
  pub cluster_is : (parts_of s.key).cluster ≡ cluster_of (length c.pivots) c.levels (leaf_of (grid_under c) log ((grid_under c).perm s.offering.object.vector))
  pub distance_is : (parts_of s.key).distance ≡ (grid_under c).distance s.offering.object.vector

-- these are the live objects after a log, each in its leaf
pub record ShowsLive (c : Configuration) (log : List LogEvent) (xs : List Shown) : Type 0 where
  pub stand : AllByRecursion (StandsInLeaf c log) xs
  pub same : SameElements (map object_shown xs) (live (updates_of log))
