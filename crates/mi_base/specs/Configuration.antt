-- The settings as contracts see them, and their limits.
use Rattle.std.specs.Prelude.{◌≡◌, ℕ, zero, suc, ℤ, ◌≤◌, List, [], length, IsTrue, min}
use Rattle.std.specs.List.{AllByRecursion}
use Rattle.mi_base.specs.declared.settings.MetricKind.{MetricKind}
use Rattle.mi_base.specs.declared.settings.MetricKind.TheVariants.{L1, Max, Hamming, Table}
use Rattle.mi_base.specs.declared.limits.TheConstants.{MAX_CELL, MAX_DIMS, MAX_DISTANCE, MAX_LEVELS, MAX_PAGES, MAX_PIVOTS, MAX_ROWS, MAX_UPDATES}
use Rattle.mi_base.specs.Space.{MetricSpace, Space, metric_of}

pub record Configuration : Type 0 where
  pub metric : MetricKind
  pub dims : ℕ
  pub rows : List (List ℕ)
  pub pivots : List (List ℤ)
  pub levels : ℕ
  pub cell : ℕ
  pub updates : ℕ
  pub pages : ℕ

abbrev pub metric_space : Configuration → MetricSpace
metric_space c = metric_of c.metric c.dims c.rows

abbrev pub space_of : Configuration → Space
space_of c = record { metric = metric_space c; pivots = c.pivots }

-- 1 to 128 values up to 128,000,000
pub record IsTableRow (row : List ℕ) : Type 0 where
  pub some : 1 ≤ length row
  pub few : length row ≤ MAX_ROWS
  pub small : AllByRecursion (λ value. value ≤ MAX_DISTANCE) row

pub record IsTable (rows : List (List ℕ)) : Type 0 where
  pub some : 1 ≤ length rows
  pub few : length rows ≤ MAX_ROWS
  pub each : AllByRecursion IsTableRow rows

-- rows stand under a table alone, and there is one coordinate then
abbrev pub HasItsRows : MetricKind → ℕ → List (List ℕ) → Type 0
HasItsRows Table dims rows = (dims ≡ 1) × IsTable rows
HasItsRows L1 dims rows = rows ≡ []
HasItsRows Max dims rows = rows ≡ []
HasItsRows Hamming dims rows = rows ≡ []

-- with no pivots there is one cell; else a prefix has at most as many places as there are pivots, and 6
abbrev pub IsDepth : ℕ → ℕ → Type 0
IsDepth zero levels = levels ≡ 0
IsDepth (suc n) levels = (1 ≤ levels) × (levels ≤ min MAX_LEVELS (suc n))

pub record IsWithinLimits (c : Configuration) : Type 0 where
  pub dims : (1 ≤ c.dims) × (c.dims ≤ MAX_DIMS)
  pub rows : HasItsRows c.metric c.dims c.rows
  pub few_pivots : length c.pivots ≤ MAX_PIVOTS
  pub pivots : AllByRecursion (λ pivot. IsTrue ((metric_space c).fits pivot)) c.pivots
  pub levels : IsDepth (length c.pivots) c.levels
  pub cell : (1 ≤ c.cell) × (c.cell ≤ MAX_CELL)
  pub updates : (1 ≤ c.updates) × (c.updates ≤ MAX_UPDATES)
  pub pages : (1 ≤ c.pages) × (c.pages ≤ MAX_PAGES)
