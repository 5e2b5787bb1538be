-- What a range query keeps of the entries that it is offered.
use Rattle.std.specs.Prelude.{◌≡◌, ◌+◌, ◌^◌, ◌<◌, ◌++◌, ℕ, ℤ, List, count_by, map}
use Rattle.mi_base.specs.declared.records.Row.{Row}
use Rattle.mi_base.specs.History.{hits}
use Rattle.mi_base.specs.Space.{MetricSpace}
use Rattle.mi_key.specs.Entries.{Offering}
use Rattle.mi_rules.specs.Passing.{lets_through}

-- the query's distances to the pivots, its radius, the rows so far in the order of what was offered, how many distances were
-- computed, and how many rows more there is room for
pub record RangeWorkState : Type 0 where
  pub dists : List ℕ
  pub radius : ℕ
  pub rows : List Row
  pub distances : ℕ
  pub spare : ℕ

-- how many of these the filter lets through
abbrev pub compared_count : List ℕ → ℕ → List Offering → ℕ
compared_count dq radius offered = count_by (λ o. lets_through radius dq o.dists) offered

-- These were offered in this order: the rows of those within the radius were added, and each that the filter lets through was one
-- step. The distances are counted in 64 bits.
pub record TakesRange (m : MetricSpace) (query : List ℤ) (old : RangeWorkState) (steps : ℕ) (offered : List Offering) (new : RangeWorkState) (new_steps : ℕ) : Type 0 where
  pub same_dists : new.dists ≡ old.dists
  pub same_radius : new.radius ≡ old.radius
  pub rows_are : new.rows ≡ old.rows ++ hits m query old.radius (map (λ o. o.object) offered)
  pub distances_are : old.distances + compared_count old.dists old.radius offered < 2 ^ 64 → new.distances ≡ old.distances + compared_count old.dists old.radius offered
  pub ticks : new_steps ≡ steps + compared_count old.dists old.radius offered
