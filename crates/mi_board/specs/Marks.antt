-- Which leaves are passed over: a mark for each leaf.
use Rattle.std.specs.Prelude.{ℕ, List, [], ◌∷◌, ◌++◌, Bool, cond, map, false}
use Rattle.mi_tree.specs.Cells.{children, same_cell}

-- the prefixes of the leaves that are marked
abbrev pub marked : List (List ℕ) → List Bool → List (List ℕ)
marked [] marks = []
marked (p ∷ ps) [] = []
marked (p ∷ ps) (m ∷ marks) = cond m (p ∷ marked ps marks) (marked ps marks)

-- the marks after a split of the leaf of a prefix: its children have none, and those of the other leaves stay
abbrev pub split_marks : ℕ → List ℕ → List (List ℕ) → List Bool → List Bool
split_marks pivots p [] marks = []
split_marks pivots p (q ∷ qs) [] = []
split_marks pivots p (q ∷ qs) (m ∷ marks) = cond (same_cell p q) (map (λ _. false) (children pivots p)) (m ∷ []) ++ split_marks pivots p qs marks
