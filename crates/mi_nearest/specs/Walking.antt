-- A walk over ranked leaves that stops at the first whose bound is greater than the last row's distance.
use Rattle.std.specs.Prelude.{◌≡◌, ◌+◌, ◌<◌, ◌≤◌, ℕ, ℤ, List, Option, Some, None, count_by, map, nat_lt}
use Rattle.std.specs.List.{AllByRecursion, filter, flat_map}
use Rattle.mi_base.specs.declared.records.LogEvent.{LogEvent}
use Rattle.mi_base.specs.declared.records.Row.{Row}
use Rattle.mi_base.specs.Configuration.{Configuration, metric_space, space_of}
use Rattle.mi_base.specs.History.{nearest_scan, row_of, updates_of}
use Rattle.mi_key.specs.Shown.{Shown, object_shown}
use Rattle.mi_nearest.specs.declared.order.Rank.{Rank}
use Rattle.mi_nearest.specs.Nearing.{first_rows}
use Rattle.mi_nearest.specs.Order.{leaves_at}
use Rattle.mi_rules.specs.Passing.{kth_distance, reached_count, reached_objects}
use Rattle.mi_tree.specs.declared.outcomes.Leaf.{Leaf}
use Rattle.mi_tree.specs.Counting.{belongs}
use Rattle.mi_tree.specs.Placing.{grid_under}

-- the walk goes no further than a bound
abbrev pub StopsAt : Option ℕ → ℕ → Type 0
StopsAt None bound = ⊥
StopsAt (Some worst) bound = worst < bound

-- how many rows are nearer than a bound
abbrev pub nearer_count : ℕ → List Row → ℕ
nearer_count bound rows = count_by (λ row. nat_lt row.distance bound) rows

-- the rows of the objects that belong to a leaf
abbrev pub rows_in : Configuration → List ℤ → List Shown → Leaf → List Row
rows_in c query xs leaf = map (row_of (metric_space c) query) (filter (belongs (grid_under c) leaf.prefix) (map object_shown xs))

-- the rows of the leaves at some places
abbrev pub rows_at : List Leaf → (Leaf → List Row) → List Rank → List Row
rows_at leaves rows_of ranks = flat_map rows_of (leaves_at leaves ranks)

-- these were opened: the rows are the first of theirs, and too few of theirs are nearer than a bound among them
pub record KeepsFirst (count : ℕ) (leaves : List Leaf) (rows_of : Leaf → List Row) (done : List Rank) (rows : List Row) : Type 0 where
  pub rows_are : rows ≡ first_rows count (rows_at leaves rows_of done)
  pub few : AllByRecursion (λ r. nearer_count r.bound (rows_at leaves rows_of done) < count) done

-- one leaf more was opened, at no more steps than it has objects
pub record OpensLeaf (count : ℕ) (leaves : List Leaf) (rows_of : Leaf → List Row) (done : List Rank) (leaf : Leaf) (rows : List Row) (steps new_steps : ℕ) : Type 0 where
  pub walked : KeepsFirst count leaves rows_of done rows
  pub few : new_steps ≤ steps + leaf.count

-- the rows are the scan, the leaves that were opened are those that have to be for them, and no more steps were taken than these have objects
pub record HasNearest (c : Configuration) (log : List LogEvent) (query : List ℤ) (count : ℕ) (rows : List Row) (opened steps : ℕ) : Type 0 where
  pub rows_are : rows ≡ nearest_scan (metric_space c) (updates_of log) query count
  pub cells_are : opened ≡ reached_count (space_of c) c.levels log query (kth_distance count rows)
  pub few : steps ≤ reached_objects (space_of c) c.levels log query (kth_distance count rows)
