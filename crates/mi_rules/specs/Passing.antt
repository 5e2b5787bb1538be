-- Which cells a query opens, and which objects it is compared with: the pruning rules of the M-Index (Novak, Batko and
-- Zezula, Information Systems 36, 2011). Of the query they know its distances to the pivots alone.
use Rattle.std.specs.Prelude.{◌≡◌, ◌+◌, ◌*◌, ◌≤◌, ◌&&◌, ◌||◌, [], ◌∷◌, ℕ, ℤ, List, Bool, true, false, cond, is_some, length, take, nat_le, nat_lt, slice_index, count_by, Option, Some, None}
use Rattle.std.specs.Int.{abs_diff}
use Rattle.std.specs.List.{filter, list_all, list_any, range_with_len, sum_by, zip}
use Rattle.mi_base.specs.declared.records.LogEvent.{LogEvent}
use Rattle.mi_base.specs.declared.records.Row.{Row}
use Rattle.mi_base.specs.Prefixes.{has}
use Rattle.mi_base.specs.Permutations.{distances}
use Rattle.mi_base.specs.History.{Object, live, updates_of}
use Rattle.mi_base.specs.Space.{Space}
use Rattle.mi_tree.specs.declared.outcomes.Leaf.{Leaf}
use Rattle.mi_tree.specs.Cells.{grid_of}
use Rattle.mi_tree.specs.Counting.{belongs, catalog_after}

-- no pivot outside these is nearer to the query than d by more than twice the radius
abbrev pub none_nearer : List ℕ → ℕ → List ℕ → ℕ → Bool
none_nearer dq r ps d = list_all (λ j. has j ps || nat_le d (slice_index dq j + 2 * r)) (range_with_len 0 (length dq))

-- the double-pivot rule: at each place of the prefix no pivot outside the places before it is nearer by so much than the one there
abbrev pub double_pivot : List ℕ → ℕ → List ℕ → Bool
double_pivot dq r prefix = list_all (λ l. none_nearer dq r (take l prefix) (slice_index dq (slice_index prefix l))) (range_with_len 0 (length prefix))

-- the range-pivot rule: the hull meets the distances that differ from d by at most the radius
abbrev pub range_pivot : ℕ → ℕ → ℕ × ℕ → Bool
range_pivot d r hull = nat_le hull.0 (d + r) && nat_le d (hull.1 + r)

-- both rules; without pivots neither forbids anything
abbrev pub rules_pass : List ℕ → ℕ → List ℕ → ℕ × ℕ → Bool
rules_pass dq r [] hull = true
rules_pass dq r (p ∷ ps) hull = double_pivot dq r (p ∷ ps) && range_pivot (slice_index dq p) r hull

-- a leaf that never had an object passes at no radius
abbrev pub hull_passes : List ℕ → ℕ → List ℕ → Option (ℕ × ℕ) → Bool
hull_passes dq r prefix None = false
hull_passes dq r prefix (Some hull) = rules_pass dq r prefix hull

-- the leaf has to be opened for what lies within the radius
abbrev pub passes : List ℕ → ℕ → Leaf → Bool
passes dq r leaf = hull_passes dq r leaf.prefix leaf.hull

-- the least radius at which a leaf passes; none where it has no hull
abbrev pub IsBound : List ℕ → Leaf → Option ℕ → Type 0
IsBound dq leaf None = leaf.hull ≡ None
IsBound dq leaf (Some bound) = (passes dq bound leaf ≡ true) × ((r : ℕ) → passes dq r leaf ≡ true → bound ≤ r)

-- pivot filtering: at each pivot the two distances differ by at most the radius
abbrev pub lets_through : ℕ → List ℕ → List ℕ → Bool
lets_through r xs ys = list_all (λ (x, y). nat_le (abs_diff x y) r) (zip xs ys)

-- how many leaves after the log a query opens
abbrev pub opened_count : Space → ℕ → List LogEvent → List ℤ → ℕ → ℕ
opened_count space levels log query r = count_by (passes (distances space query) r) (catalog_after (grid_of space levels) log)

-- the object's leaf is opened
abbrev pub is_opened : Space → ℕ → List LogEvent → List ℤ → ℕ → Object → Bool
is_opened space levels log query r o = list_any (λ l. belongs (grid_of space levels) l.prefix o && passes (distances space query) r l) (catalog_after (grid_of space levels) log)

-- the live objects that the query is compared with: their leaf is opened, and the filter lets them through
abbrev pub candidates : Space → ℕ → List LogEvent → List ℤ → ℕ → List Object
candidates space levels log query r =
    filter (λ o. is_opened space levels log query r o && lets_through r (distances space query) (distances space o.vector)) (live (updates_of log))

-- the distance in the last row
abbrev pub last_distance : List Row → Option ℕ
last_distance [] = None
last_distance (row ∷ []) = Some row.distance
last_distance (row ∷ next ∷ rows) = last_distance (next ∷ rows)

-- the distance in the last row, once there are so many rows; none while there are fewer
abbrev pub kth_distance : ℕ → List Row → Option ℕ
kth_distance count rows = cond (nat_lt (length rows) count) None (last_distance rows)

-- A query for the nearest opens the leaf. While there are too few rows that is each leaf with a hull, and otherwise each whose bound is
-- no greater than the last row's distance, so each that passes there.
abbrev pub is_reached : List ℕ → Option ℕ → Leaf → Bool
is_reached dq None leaf = is_some leaf.hull
is_reached dq (Some worst) leaf = passes dq worst leaf

-- how many leaves after the log such a query opens
abbrev pub reached_count : Space → ℕ → List LogEvent → List ℤ → Option ℕ → ℕ
reached_count space levels log query worst = count_by (is_reached (distances space query) worst) (catalog_after (grid_of space levels) log)

-- how many live objects these leaves have
abbrev pub reached_objects : Space → ℕ → List LogEvent → List ℤ → Option ℕ → ℕ
reached_objects space levels log query worst = sum_by (λ l. cond (is_reached (distances space query) worst l) l.count 0) (catalog_after (grid_of space levels) log)
