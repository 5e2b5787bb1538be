-- The cells of a log, by their prefixes (Novak, Batko and Zezula, Information Systems 36, 2011).
use Rattle.std.specs.Prelude.{◌≡◌, ◌<◌, ◌≤◌, ◌==◌, ◌+◌, ◌&&◌, ◌∷◌, ◌++◌, [], ℕ, ℤ, List, Bool, IsTrue, cond, not, length, map, flat_map, take, min}
use Rattle.std.specs.List.{filter, fold, range_with_len, list_any, AllByRecursion}
use Rattle.mi_base.specs.declared.records.LogEvent.{LogEvent}
use Rattle.mi_base.specs.declared.records.LogEvent.TheVariants.{Update as Made, Split}
use Rattle.mi_base.specs.Prefixes.{has}
use Rattle.mi_base.specs.Permutations.{is_permutation, begins, distances, permutation_of, key_distance}
use Rattle.mi_base.specs.Space.{Space}

-- how a space places its vectors: so many pivots, the greatest depth, the permutation of a vector and its key distance
pub record Grid : Type 0 where
  pub pivots : ℕ
  pub levels : ℕ
  pub perm : List ℤ → List ℕ
  pub distance : List ℤ → ℕ

abbrev pub grid_of : Space → ℕ → Grid
grid_of space levels = record {
  pivots = length space.pivots;
  levels = levels;
  perm = λ v. permutation_of (distances space v);
  distance = λ v. key_distance (distances space v);
}

-- each vector has a permutation of all pivots, and the first leaves are not too deep
pub record IsGrid (g : Grid) : Type 0 where
  pub perms : (v : List ℤ) → IsTrue (is_permutation (g.perm v)) × (length (g.perm v) ≡ g.pivots)
  pub levels : g.levels ≤ g.pivots
  pub first : min 1 g.pivots ≤ g.levels

-- the children of a prefix, one for each pivot that isn't in it, in ascending order
abbrev pub children : ℕ → List ℕ → List (List ℕ)
children pivots p = map (λ i. p ++ i ∷ []) (filter (λ i. not (has i p)) (range_with_len 0 pivots))

-- two prefixes are one
abbrev pub same_cell : List ℕ → List ℕ → Bool
same_cell p q = (length p == length q) && begins p q

-- what a split of p leaves of the leaf q
abbrev pub split_cell : ℕ → List ℕ → List ℕ → List (List ℕ)
split_cell pivots p q = cond (same_cell p q) (children pivots p) (q ∷ [])

-- an update keeps the leaves, a split puts the children of a leaf in its place
abbrev pub leaves_after : ℕ → List (List ℕ) → LogEvent → List (List ℕ)
leaves_after pivots ls (Made session op u) = ls
leaves_after pivots ls (Split p) = flat_map (split_cell pivots p) ls

-- one leaf for each pivot, or one with the empty prefix without pivots
abbrev pub first_leaves : ℕ → List (List ℕ)
first_leaves pivots = cond (pivots == 0) ([] ∷ []) (children pivots [])

-- the prefixes of the leaves after a log, in dictionary order
abbrev pub leaves : Grid → List LogEvent → List (List ℕ)
leaves g log = fold (leaves_after g.pivots) (first_leaves g.pivots) log

-- a leaf after the log has this prefix
abbrev pub is_leaf : Grid → List LogEvent → List ℕ → Bool
is_leaf g log p = list_any (same_cell p) (leaves g log)

-- a split takes the permutations of its leaf one pivot deeper
abbrev pub depth_after : List ℕ → ℕ → LogEvent → ℕ
depth_after perm d (Made session op u) = d
depth_after perm d (Split p) = cond ((length p == d) && begins p perm) (d + 1) d

-- how many pivots the leaf of a permutation has: the first leaves have 1, or 0 without pivots
abbrev pub depth : Grid → List LogEvent → List ℕ → ℕ
depth g log perm = fold (depth_after perm) (min 1 g.pivots) log

-- the leaf whose prefix begins a permutation
abbrev pub leaf_of : Grid → List LogEvent → List ℕ → List ℕ
leaf_of g log perm = take (depth g log perm) perm

-- a split is of a prefix above the greatest depth
abbrev pub MaySplit : Grid → LogEvent → Type 0
MaySplit g (Made session op u) = Unit {0}
MaySplit g (Split p) = length p < g.levels

-- each split of the log is of a prefix above the greatest depth
abbrev pub AllMaySplit : Grid → List LogEvent → Type 0
AllMaySplit g log = AllByRecursion (MaySplit g) log
