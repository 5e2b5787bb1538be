-- Counts beside the live objects, and the one cell without pivots.
use Rattle.std.proofs.Common.{◌≡◌, ℕ, ◌+◌, ◌<◌, ◌≤◌, List, [], ◌∷◌, map, length, Bool, true, ◌||◌, refl, sym, ap, ◌∙◌, subst, arith, Some, None}
use Rattle.std.specs.List.{filter, fold, list_any}
use Rattle.std.specs.Prelude.{All, if◌then◌else◌}
use Rattle.std.proofs.Math.Bool.{or-false}
use Rattle.std.proofs.lemmas.Bool.{or_right}
use Rattle.std.proofs.lemmas.List.Elements.{All-from_recursion}
use Rattle.mi_base.specs.declared.records.Update.TheVariants.{Insert, Delete}
use Rattle.mi_base.specs.declared.records.LogEvent.{LogEvent}
use Rattle.mi_base.specs.declared.records.LogEvent.TheVariants.{Update as Made, Split}
use Rattle.mi_base.specs.Permutations.{begins}
use Rattle.mi_base.specs.Sorting.{SameElements}
use Rattle.mi_base.specs.History.{Object, live, updates_of}
use Rattle.mi_base.specs.Space.{MetricSpace, Space}
use Rattle.mi_base.proofs.LiveLemmas.{length_filter}
use Rattle.mi_base.proofs.SortingLemmas.{same_filter, same_length}
use Rattle.mi_tree.specs.declared.outcomes.Leaf.{Leaf}
use Rattle.mi_tree.specs.LoneCell.{is_insert, hull_after, lone_cell}
use Rattle.mi_tree.specs.Cells.{Grid, grid_of, same_cell, leaves, leaves_after, is_leaf, AllMaySplit}
use Rattle.mi_tree.specs.Counting.{widen, hull_of, Population, belongs, population_after, population, leaf_with, catalog_after, has_leaf}
use Rattle.mi_tree.proofs.ListLemmas.{all_any, all_map}
use Rattle.mi_tree.proofs.CatLemmas.{held_live}
use Rattle.mi_tree.proofs.HullLemmas.{leaf_equal}

-- a test of what a map gives
pub any_map : {X Y : Type 0} (t : Y → Bool) (f : X → Y) (xs : List X) → list_any t (map f xs) ≡ list_any (λ x. t (f x)) xs
any_map t f [] = refl
any_map t f (x ∷ xs) = ap (λ b. t (f x) || b) (any_map t f xs)

-- the prefixes of the counted leaves are those of the leaves
pub cat_has : (g : Grid) (log : List LogEvent) (p : List ℕ) → has_leaf p (catalog_after g log) ≡ is_leaf g log p
cat_has g log p = any_map (λ (l : Leaf). same_cell p l.prefix) (leaf_with g (population g log)) (leaves g log)

-- no leaf counts more than the live objects
pub counts_within : (g : Grid) (log : List LogEvent) → All (λ l. l.count ≤ length (live (updates_of log))) (catalog_after g log)
counts_within g log =
    let P : Leaf → Type 0 = λ l. l.count ≤ length (live (updates_of log)) in
    let one : (p : List ℕ) → P (leaf_with g (population g log) p) = λ p. let n = length_filter (belongs g p) (population g log).live in omega (arith, n, ap length (held_live g log)) in
    All-from_recursion P (catalog_after g log) (all_map (leaf_with g (population g log)) P (leaves g log) (all_any _ one (leaves g log)))

-- the leaf of a live object counts it
pub counts_some : (g : Grid) (log : List LogEvent) (o : Object) (rest : List Object) → SameElements (live (updates_of log)) (o ∷ rest) → All (λ l. begins l.prefix (g.perm o.vector) ≡ true → 0 < l.count) (catalog_after g log)
counts_some g log o rest same =
    let P : Leaf → Type 0 = λ l. begins l.prefix (g.perm o.vector) ≡ true → 0 < l.count in
    let s : SameElements (population g log).live (o ∷ rest) = subst (λ (xs : List Object). SameElements xs (o ∷ rest)) (sym (held_live g log)) same in
    let one : (p : List ℕ) → P (leaf_with g (population g log) p) = λ p h.
    let n = same_length _ _ (same_filter (belongs g p) _ _ s) in
    let m : length (filter (belongs g p) (o ∷ rest)) ≡ 1 + length (filter (belongs g p) rest) = rw h (omega arith) in
    omega (arith, n, m) in
    All-from_recursion P (catalog_after g log) (all_map (leaf_with g (population g log)) P (leaves g log) (all_any _ one (leaves g log)))

-- a test that all pass keeps all
filter_whole : {X : Type 0} (xs : List X) → filter (λ x. true) xs ≡ xs
filter_whole [] = refl
filter_whole (x ∷ xs) = ap (λ ys. x ∷ ys) (filter_whole xs)

-- the least interval of zeros
zeros_hull : {X : Type 0} (xs : List X) → hull_of (map (λ x. 0) xs) ≡ (if list_any (λ x. true) xs then Some (0, 0) else None)
zeros_hull [] = refl
zeros_hull (x ∷ []) = refl
zeros_hull (x ∷ y ∷ xs) = ap (widen 0) (zeros_hull (y ∷ xs))

-- a grid without levels is never split
never_split : (g : Grid) → g.levels ≡ 0 → (ls : List (List ℕ)) (log : List LogEvent) → AllMaySplit g log → fold (leaves_after g.pivots) ls log ≡ ls
never_split g z ls [] h = refl
never_split g z ls (Made session op u ∷ log) h = never_split g z ls log h.1
never_split g z ls (Split p ∷ log) h = let lt = h.0 in absurd (omega arith)

-- something was put in exactly where there was an insert
some_put : (g : Grid) → g.levels ≡ 0 → (h : Population) (log : List LogEvent) → AllMaySplit g log → list_any (λ o. true) (fold (population_after g) h log).put_in ≡ (list_any (λ o. true) h.put_in || list_any is_insert (updates_of log))
some_put g z h [] k = sym (or-false (list_any (λ o. true) h.put_in))
some_put g z h (Made session op (Insert id vector) ∷ log) k = some_put g z (population_after g h (Made session op (Insert id vector))) log k.1 ∙ sym (or_right (list_any (λ o. true) h.put_in) true refl)
some_put g z h (Made session op (Delete id) ∷ log) k = some_put g z (population_after g h (Made session op (Delete id))) log k.1
some_put g z h (Split p ∷ log) k = let lt = k.0 in absurd (omega arith)

-- without pivots the leaves are the one cell
pub cat_whole : (m : MetricSpace) (log : List LogEvent) → AllMaySplit (grid_of (record { metric = m; pivots = [] }) 0) log → catalog_after (grid_of (record { metric = m; pivots = [] }) 0) log ≡ lone_cell log
cat_whole m log legal =
    let space : Space = record { metric = m; pivots = [] } in
    let g = grid_of space 0 in
    let h = population g log in
    let counted : length (filter (λ (o : Object). true) h.live) ≡ length (live (updates_of log)) = ap length (filter_whole h.live) ∙ ap length (held_live g log) in
    let spread : hull_of (map (λ (o : Object). 0) (filter (λ (o : Object). true) h.put_in)) ≡ hull_after (updates_of log) =
    ap (λ (xs : List Object). hull_of (map (λ (o : Object). 0) xs)) (filter_whole h.put_in) ∙ zeros_hull h.put_in
    ∙ ap (λ b. if b then Some (0, 0) else None) (some_put g refl (record { live = []; put_in = [] }) log legal) in
    ap (map (leaf_with g h)) (never_split g refl ([] ∷ []) log legal) ∙ ap (λ (l : Leaf). l ∷ []) (leaf_equal [] counted spread)
