-- The vectors in the fields of records.
use Rattle.std.specs.Prelude.{ℕ, ℤ, pos, neg_ℤ, ◌-◌, ◌≤◌, ◌≤ℤ◌, List, length, Result}
use Rattle.mi_base.specs.declared.limits.TheConstants.{MAX_COORDINATE, MAX_DIMS}
use Rattle.mi_base.specs.declared.settings.MetricKind.{MetricKind}
use Rattle.mi_base.specs.declared.settings.MetricKind.TheVariants.{L1, Max, Hamming, Table}
use Rattle.mi_base.specs.Configuration.{Configuration}
use Rattle.mi_input.specs.declared.faults.Reason.{Reason}
use Rattle.mi_input.specs.declared.vectors.Shape.{Shape}
use Rattle.mi_input.specs.Numbers.{whole_in}
use Rattle.mi_input.specs.Records.{read_each}

-- the least coordinate
abbrev pub lowest : MetricKind → ℤ
lowest Table = pos 0
lowest L1 = neg_ℤ (pos MAX_COORDINATE)
lowest Max = neg_ℤ (pos MAX_COORDINATE)
lowest Hamming = neg_ℤ (pos MAX_COORDINATE)

-- the greatest coordinate, which under a table is the last row's number
abbrev pub highest : MetricKind → List (List ℕ) → ℤ
highest Table rows = pos (length rows - 1)
highest L1 rows = pos MAX_COORDINATE
highest Max rows = pos MAX_COORDINATE
highest Hamming rows = pos MAX_COORDINATE

-- how many coordinates a vector has, and from where to where each is
abbrev pub shape_under : MetricKind → ℕ → List (List ℕ) → Shape
shape_under metric dims rows = record { dims = dims; lowest = lowest metric; highest = highest metric rows }

abbrev pub shape_of : Configuration → Shape
shape_of c = shape_under c.metric c.dims c.rows

-- the coordinates in these fields
abbrev pub vector_in : Shape → List (List ℕ) → Result (List ℤ) Reason
vector_in shape fields = read_each (whole_in shape.lowest shape.highest) fields

-- a vector of this shape is one
pub record IsShape (shape : Shape) : Type 0 where
  pub some : 1 ≤ shape.dims
  pub few : shape.dims ≤ MAX_DIMS
  pub lowest : neg_ℤ (pos MAX_COORDINATE) ≤ℤ shape.lowest
  pub highest : shape.highest ≤ℤ pos MAX_COORDINATE
