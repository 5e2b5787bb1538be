-- A catalog as its callers see it, and what a split of it answers.
use Rattle.std.specs.Prelude.{◌≡◌, ◌<◌, ◌≤◌, ℕ, List, length, map, flat_map, IsTrue, true, false, Result, Ok, Err}
use Rattle.std.specs.List.{filter}
use Rattle.mi_base.specs.Permutations.{is_permutation, begins}
use Rattle.mi_tree.specs.declared.outcomes.Leaf.{Leaf}
use Rattle.mi_tree.specs.declared.counts.Placed.{Placed}
use Rattle.mi_tree.specs.declared.refusals.SplitRefusal.{SplitRefusal}
use Rattle.mi_tree.specs.declared.refusals.SplitRefusal.TheVariants.{NotLeaf, Deepest, Memory}
use Rattle.mi_tree.specs.Order.{in_order}
use Rattle.mi_tree.specs.Counting.{split_leaf, has_leaf}

-- a catalog's numbers, and its leaves
pub record CatalogState : Type 0 where
  pub pivots : ℕ
  pub levels : ℕ
  pub leaves : List Leaf

-- the prefixes of leaves
abbrev pub prefixes_of : List Leaf → List (List ℕ)
prefixes_of ls = map (λ l. l.prefix) ls

-- each permutation of so many pivots begins with exactly one of these prefixes
abbrev pub Partition : ℕ → List (List ℕ) → Type 0
Partition pivots ps = (perm : List ℕ) → IsTrue (is_permutation perm) → length perm ≡ pivots → length (filter (λ p. begins p perm) ps) ≡ 1

-- what holds of every catalog
abbrev pub IsCatalog : ℕ → ℕ → List (List ℕ) → Type 0
IsCatalog pivots levels ps = (pivots ≤ 32) × (levels ≤ 6) × (levels ≤ pivots) × IsTrue (in_order ps) × Partition pivots ps

-- a split answers NotLeaf exactly where no leaf has the prefix, Deepest exactly where its leaf can't be split, and changes nothing
-- then; Memory stands for want of memory
abbrev pub Splits : CatalogState → CatalogState → List ℕ → List Placed → Result (Unit {0}) SplitRefusal → Type 0
Splits old new p objects (Ok _) =
    (has_leaf p old.leaves ≡ true) × (length p < old.levels)
    × (new ≡ record { pivots = old.pivots; levels = old.levels; leaves = flat_map (split_leaf old.pivots p objects) old.leaves })
Splits old new p objects (Err NotLeaf) = (has_leaf p old.leaves ≡ false) × (new ≡ old)
Splits old new p objects (Err Deepest) = (has_leaf p old.leaves ≡ true) × (old.levels ≤ length p) × (new ≡ old)
Splits old new p objects (Err Memory) = new ≡ old
