-- What a range query is offered of the leaves that pass, and what it has then.
use Rattle.std.specs.Prelude.{◌≡◌, ◌+◌, [], ◌∷◌, ◌++◌, ℕ, ℤ, List, cond, length}
use Rattle.std.specs.List.{filter}
use Rattle.mi_base.specs.declared.records.LogEvent.{LogEvent}
use Rattle.mi_base.specs.Configuration.{Configuration, metric_space, space_of}
use Rattle.mi_base.specs.History.{range_scan, row_cmp, updates_of}
use Rattle.mi_base.specs.Sorting.{sorted}
use Rattle.mi_key.specs.Entries.{Offering}
use Rattle.mi_key.specs.Keys.{parts_of}
use Rattle.mi_key.specs.Shown.{Shown, offerings}
use Rattle.mi_rules.specs.Passing.{candidates, passes}
use Rattle.mi_rules.specs.Spans.{is_in_span}
use Rattle.mi_tree.specs.declared.outcomes.Leaf.{Leaf}
use Rattle.mi_range.specs.Ranging.{RangeWorkState}

-- what is offered of a leaf: where it passes, the objects whose keys its span has
abbrev pub leaf_offered : List ℕ → ℕ → ℕ → List Shown → Leaf → List Offering
leaf_offered dq radius levels xs l = cond (passes dq radius l) (offerings (filter (λ s. is_in_span dq radius levels l.prefix (parts_of s.key)) xs)) []

-- and of leaves, one after another
abbrev pub leaves_offered : List ℕ → ℕ → ℕ → List Shown → List Leaf → List Offering
leaves_offered dq radius levels xs [] = []
leaves_offered dq radius levels xs (l ∷ ls) = leaf_offered dq radius levels xs l ++ leaves_offered dq radius levels xs ls

-- nothing was offered yet, and the distances to the pivots were computed
pub record IsFresh (dq : List ℕ) (radius : ℕ) (work : RangeWorkState) : Type 0 where
  pub dists_are : work.dists ≡ dq
  pub radius_is : work.radius ≡ radius
  pub rows_are : work.rows ≡ []
  pub distances_are : work.distances ≡ length dq

-- the rows in their order are the scan, and the objects that the query was compared with are the candidates, at a step each
pub record HasScan (c : Configuration) (log : List LogEvent) (query : List ℤ) (radius : ℕ) (steps : ℕ) (work : RangeWorkState) (new_steps : ℕ) : Type 0 where
  pub rows_are : sorted row_cmp work.rows ≡ range_scan (metric_space c) (updates_of log) query radius
  pub distances_are : work.distances ≡ length c.pivots + length (candidates (space_of c) c.levels log query radius)
  pub ticks : new_steps ≡ steps + length (candidates (space_of c) c.levels log query radius)
