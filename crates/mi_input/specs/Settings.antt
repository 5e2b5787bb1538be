-- The settings in a file.
use Rattle.std.specs.Prelude.{◌≡◌, ℕ, ℤ, ◌+◌, ◌==◌, ◌&&◌, ◌≤◌, if◌then◌else◌, List, [], ◌∷◌, length, drop, bytes_eq, codes, Result, Ok, Err, IsTrue, min, nat_le}
use Rattle.std.specs.List.{AllByRecursion}
use Rattle.mi_base.specs.declared.limits.TheConstants.{MAX_CELL, MAX_DIMS, MAX_DISTANCE, MAX_LEVELS, MAX_PAGES, MAX_PIVOTS, MAX_ROWS, MAX_UPDATES}
use Rattle.mi_base.specs.declared.settings.MetricKind.{MetricKind}
use Rattle.mi_base.specs.declared.settings.MetricKind.TheVariants.{L1, Max, Hamming, Table}
use Rattle.mi_base.specs.Configuration.{Configuration, HasItsRows, IsDepth, IsTable}
use Rattle.mi_base.specs.Space.{metric_of}
use Rattle.mi_input.specs.declared.faults.Reason.{Reason}
use Rattle.mi_input.specs.declared.faults.Reason.TheVariants.{Word, Fields}
use Rattle.mi_input.specs.declared.settings.Measure.{Measure}
use Rattle.mi_input.specs.declared.settings.Sizes.{Sizes}
use Rattle.mi_input.specs.declared.vectors.Shape.{Shape}
use Rattle.mi_input.specs.Faults.{Fault, ◌>>=◌}
use Rattle.mi_input.specs.Numbers.{count_in}
use Rattle.mi_input.specs.Records.{Place, begins_with, read_each, value_at_end, field_in, within_limit, read_record, run_of, start}
use Rattle.mi_input.specs.Vectors.{shape_under, vector_in}

-- the metric of this name
abbrev pub kind_in : List ℕ → Result MetricKind Reason
kind_in name =
    if bytes_eq name (codes "l1") then Ok L1
    else if bytes_eq name (codes "max") then Ok Max
    else if bytes_eq name (codes "hamming") then Ok Hamming
    else if bytes_eq name (codes "table") then Ok Table
    else Err Word

-- metric,NAME: an unknown name is no word, whatever follows it
unfoldable pub metric_in : List (List ℕ) → Result MetricKind Reason
metric_in fields =
    if begins_with (codes "metric") fields then
    (if length fields == 1 then Err Fields
    else (do
      kind ← kind_in (field_in 1 fields)
      if length fields == 2 then Ok kind else Err Fields))
    else Err Word

-- WORD,N
unfoldable pub setting_in : List ℕ → ℕ → ℕ → List (List ℕ) → Result ℕ Reason
setting_in word least most fields =
    if begins_with word fields then (if length fields == 2 then count_in least most (field_in 1 fields) else Err Fields)
    else Err Word

-- the greatest number of coordinates
abbrev pub most_dims : MetricKind → ℕ
most_dims Table = 1
most_dims L1 = MAX_DIMS
most_dims Max = MAX_DIMS
most_dims Hamming = MAX_DIMS

-- 1 to 128 values
unfoldable pub values_in : List (List ℕ) → Result (List ℕ) Reason
values_in fields =
    if nat_le 1 (length fields) && nat_le (length fields) MAX_ROWS then read_each (count_in 0 MAX_DISTANCE) fields
    else Err Fields

-- row,VALUES: the table's row of this number, from 1
unfoldable pub row_in : ℕ → List (List ℕ) → Result (List ℕ) Reason
row_in number fields =
    if begins_with (codes "row") fields then within_limit MAX_ROWS number (values_in (drop 1 fields))
    else Err Word

-- one row at least
unfoldable pub table_in : Place → Result (List (List ℕ) × Place) Fault
table_in place = do
  first ← read_record (row_in 1) place
  more ← run_of (codes "row") row_in 1 first.1.number first.1.records
  Ok (first.0 ∷ more.0, more.1)

-- rows stand under a table alone
abbrev pub rows_in : MetricKind → Place → Result (List (List ℕ) × Place) Fault
rows_in Table place = table_in place
rows_in L1 place = Ok ([], place)
rows_in Max place = Ok ([], place)
rows_in Hamming place = Ok ([], place)

-- metric,NAME / dims,N / row,VALUES ..
unfoldable pub measure_in : Place → Result (Measure × Place) Fault
measure_in place = do
  metric ← read_record metric_in place
  dims ← read_record (setting_in (codes "dims") 1 (most_dims metric.0)) metric.1
  rows ← rows_in metric.0 dims.1
  Ok (record { metric = metric.0; dims = dims.0; rows = rows.0 }, rows.1)

-- pivot,COORDINATES: the pivot of this number, from 1
unfoldable pub pivot_in : Shape → ℕ → List (List ℕ) → Result (List ℤ) Reason
pivot_in shape number fields = within_limit MAX_PIVOTS number (if length fields == shape.dims + 1 then vector_in shape (drop 1 fields) else Err Fields)

-- pivot,COORDINATES ..: there may be none
unfoldable pub pivots_in : Shape → Place → Result (List (List ℤ) × Place) Fault
pivots_in shape place = run_of (codes "pivot") (pivot_in shape) 0 place.number place.records

-- levels,N: 0 without pivots, else at least 1 and at most 6 and the number of pivots
abbrev pub levels_in : ℕ → List (List ℕ) → Result ℕ Reason
levels_in pivots fields = setting_in (codes "levels") (min 1 pivots) (min MAX_LEVELS pivots) fields

-- levels,N / cell,N / updates,N / pages,N
unfoldable pub sizes_in : ℕ → Place → Result (Sizes × Place) Fault
sizes_in pivots place = do
  levels ← read_record (levels_in pivots) place
  cell ← read_record (setting_in (codes "cell") 1 MAX_CELL) levels.1
  updates ← read_record (setting_in (codes "updates") 1 MAX_UPDATES) cell.1
  pages ← read_record (setting_in (codes "pages") 1 MAX_PAGES) updates.1
  Ok (record { levels = levels.0; cell = cell.0; updates = updates.0; pages = pages.0 }, pages.1)

-- the settings in a file of these bytes, or its first fault
unfoldable pub settings_in : List ℕ → Result Configuration Fault
settings_in bytes = do
  measure ← measure_in (start bytes)
  pivots ← pivots_in (shape_under measure.0.metric measure.0.dims measure.0.rows) measure.1
  sizes ← sizes_in (length pivots.0) pivots.1
  value_at_end sizes.1 (record {
    metric = measure.0.metric;
    dims = measure.0.dims;
    rows = measure.0.rows;
    pivots = pivots.0;
    levels = sizes.0.levels;
    cell = sizes.0.cell;
    updates = sizes.0.updates;
    pages = sizes.0.pages;
  })

-- what the settings want of the first part, of the pivots, and of the last
pub record IsMeasure (measure : Measure) : Type 0 where
  pub dims : (1 ≤ measure.dims) × (measure.dims ≤ MAX_DIMS)
  pub rows : HasItsRows measure.metric measure.dims measure.rows

pub record ArePivots (measure : Measure) (pivots : List (List ℤ)) : Type 0 where
  pub few : length pivots ≤ MAX_PIVOTS
  pub fit : AllByRecursion (λ pivot. IsTrue ((metric_of measure.metric measure.dims measure.rows).fits pivot)) pivots

pub record AreSizes (pivots : ℕ) (sizes : Sizes) : Type 0 where
  pub levels : IsDepth pivots sizes.levels
  pub cell : (1 ≤ sizes.cell) × (sizes.cell ≤ MAX_CELL)
  pub updates : (1 ≤ sizes.updates) × (sizes.updates ≤ MAX_UPDATES)
  pub pages : (1 ≤ sizes.pages) × (sizes.pages ≤ MAX_PAGES)

-- the same of the rows alone
abbrev pub AreItsRows : MetricKind → List (List ℕ) → Type 0
AreItsRows Table rows = IsTable rows
AreItsRows L1 rows = rows ≡ []
AreItsRows Max rows = rows ≡ []
AreItsRows Hamming rows = rows ≡ []
