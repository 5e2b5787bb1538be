-- What a query for the nearest keeps of the entries that it is offered.
use Rattle.std.specs.Prelude.{◌≡◌, ◌+◌, ◌≤◌, ◌++◌, ℕ, ℤ, List, Bool, false, true, length, map, nat_lt, take, Option, Some, None}
use Rattle.mi_base.specs.declared.records.Row.{Row}
use Rattle.mi_base.specs.History.{row_cmp, row_of}
use Rattle.mi_base.specs.Sorting.{sorted}
use Rattle.mi_base.specs.Space.{MetricSpace}
use Rattle.mi_key.specs.Entries.{Offering}
use Rattle.mi_rules.specs.Passing.{kth_distance, lets_through}

-- the query's distances to the pivots, how many rows it is for, the rows kept in their order, and how many rows more there is room for
pub record NearestWorkState : Type 0 where
  pub dists : List ℕ
  pub count : ℕ
  pub rows : List Row
  pub spare : ℕ

-- the first so many rows by distance, then identifier
abbrev pub first_rows : ℕ → List Row → List Row
first_rows count rows = take count (sorted row_cmp rows)

-- the greatest distance kept, once there are as many rows as the query is for
abbrev pub worst_of : NearestWorkState → Option ℕ
worst_of w = kth_distance w.count w.rows

-- no leaf of such a bound has to be opened: there are rows enough, and the last of them is nearer
abbrev pub stops_at : Option ℕ → ℕ → Bool
stops_at None bound = false
stops_at (Some worst) bound = nat_lt worst bound

-- an object may still be among the nearest: there are too few rows, or the filter lets it through at the greatest distance kept
abbrev pub may_be_near : Option ℕ → List ℕ → List ℕ → Bool
may_be_near None dq dists = true
may_be_near (Some worst) dq dists = lets_through worst dq dists

-- These were offered in this order, each at the cost of one step at most: if the rows were the first ones of some, they are the first
-- ones of those and the rows of what was offered.
pub record TakesNearest (m : MetricSpace) (query : List ℤ) (old : NearestWorkState) (steps : ℕ) (offered : List Offering) (new : NearestWorkState) (new_steps : ℕ) : Type 0 where
  pub same_dists : new.dists ≡ old.dists
  pub same_count : new.count ≡ old.count
  pub rows_are : (before : List Row) → old.rows ≡ first_rows old.count before → new.rows ≡ first_rows old.count (before ++ map (λ o. row_of m query o.object) offered)
  pub onward : steps ≤ new_steps
  pub ticks : new_steps ≤ steps + length offered
