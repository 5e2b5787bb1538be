-- In which order a query for the nearest opens the leaves.
use Rattle.std.specs.Prelude.{◌≡◌, ℕ, List, is_some, slice_get, Some}
use Rattle.std.specs.declared.cmp.Ordering.{Ordering}
use Rattle.std.specs.List.{AllByRecursion, filter, filter_map}
use Rattle.std.specs.Ordering.{nat_cmp, ordering_then}
use Rattle.mi_base.specs.Sorting.{Ascends, SameElements}
use Rattle.mi_tree.specs.declared.outcomes.Leaf.{Leaf}
use Rattle.mi_rules.specs.Passing.{IsBound}
use Rattle.mi_nearest.specs.declared.order.Rank.{Rank}

-- by bound, then place
abbrev pub rank_cmp : Rank → Rank → Ordering
rank_cmp a b = ordering_then (nat_cmp a.bound b.bound) (nat_cmp a.place b.place)

-- there is a leaf at the place, and this is its bound
pub record IsRank (dq : List ℕ) (leaves : List Leaf) (rank : Rank) : Type 0 where
  pub leaf : Leaf
  pub stands : slice_get leaves rank.place ≡ Some leaf
  pub bound_is : IsBound dq leaf (Some rank.bound)

-- the leaves at the places of ranks
abbrev pub leaves_at : List Leaf → List Rank → List Leaf
leaves_at leaves ranks = filter_map (λ rank. slice_get leaves rank.place) ranks

-- each leaf that has a hull once, by ascending bound, then place
pub record IsRanked (dq : List ℕ) (leaves : List Leaf) (ranks : List Rank) : Type 0 where
  pub are : AllByRecursion (IsRank dq leaves) ranks
  pub all : SameElements (leaves_at leaves ranks) (filter (λ leaf. is_some leaf.hull) leaves)
  pub ascend : Ascends rank_cmp ranks
