-- Metrics and spaces.
use Rattle.std.specs.Prelude.{◌≡◌, ℕ, ℤ, pos, ◌+◌, ◌≤◌, ◌-ℤ◌, ◌==◌, ◌&&◌, List, [], ◌∷◌, length, Bool, false, IsTrue, cond, max, nat_lt, unsigned_abs, slice_index, slice_index_or}
use Rattle.mi_base.specs.declared.settings.MetricKind.{MetricKind}
use Rattle.mi_base.specs.declared.settings.MetricKind.TheVariants.{L1, Max, Hamming, Table}
use Rattle.mi_base.specs.declared.limits.TheConstants.{MAX_DISTANCE}
use Rattle.mi_base.specs.Vectors.{all_coordinates}

-- which vectors fit a metric, and the distance of two
pub record MetricSpace : Type 0 where
  pub fits : List ℤ → Bool
  pub d : List ℤ → List ℤ → ℕ

-- the usual definition of a metric, for vectors that fit, and the index's own bound of a distance
pub record IsMetric (m : MetricSpace) : Type 0 where
  pub same : (x : List ℤ) → IsTrue (m.fits x) → m.d x x ≡ 0
  pub apart : (x y : List ℤ) → IsTrue (m.fits x) → IsTrue (m.fits y) → m.d x y ≡ 0 → x ≡ y
  pub symmetric : (x y : List ℤ) → IsTrue (m.fits x) → IsTrue (m.fits y) → m.d x y ≡ m.d y x
  pub triangle : (x y z : List ℤ) → IsTrue (m.fits x) → IsTrue (m.fits y) → IsTrue (m.fits z) → m.d x z ≤ m.d x y + m.d y z
  pub bound : (x y : List ℤ) → IsTrue (m.fits x) → IsTrue (m.fits y) → m.d x y ≤ MAX_DISTANCE

-- L1: the sum of the absolute differences
abbrev pub sum_of_differences : List ℤ → List ℤ → ℕ
sum_of_differences [] ys = 0
sum_of_differences (x ∷ xs) [] = 0
sum_of_differences (x ∷ xs) (y ∷ ys) = unsigned_abs (x -ℤ y) + sum_of_differences xs ys

-- maximum: the greatest absolute difference
abbrev pub greatest_difference : List ℤ → List ℤ → ℕ
greatest_difference [] ys = 0
greatest_difference (x ∷ xs) [] = 0
greatest_difference (x ∷ xs) (y ∷ ys) = max (unsigned_abs (x -ℤ y)) (greatest_difference xs ys)

-- Hamming: the number of positions that differ
abbrev pub count_of_differences : List ℤ → List ℤ → ℕ
count_of_differences [] ys = 0
count_of_differences (x ∷ xs) [] = 0
count_of_differences (x ∷ xs) (y ∷ ys) = cond (unsigned_abs (x -ℤ y) == 0) 0 1 + count_of_differences xs ys

-- what a table has at a row and a column
abbrev pub table_entry : List (List ℕ) → ℕ → ℕ → ℕ
table_entry rows i j = slice_index (slice_index_or rows i []) j

-- under a table the one coordinate is a row's number
abbrev pub is_row : ℕ → List ℤ → Bool
is_row n (pos i ∷ []) = nat_lt i n
is_row n xs = false

abbrev pub table_distance : List (List ℕ) → List ℤ → List ℤ → ℕ
table_distance rows (pos i ∷ []) (pos j ∷ []) = table_entry rows i j
table_distance rows xs ys = 0

-- vectors of so many coordinates
abbrev pub has_dims : ℕ → List ℤ → Bool
has_dims dims v = (length v == dims) && all_coordinates v

abbrev pub l1_metric : ℕ → MetricSpace
l1_metric dims = record { fits = has_dims dims; d = sum_of_differences }

abbrev pub max_metric : ℕ → MetricSpace
max_metric dims = record { fits = has_dims dims; d = greatest_difference }

abbrev pub hamming_metric : ℕ → MetricSpace
hamming_metric dims = record { fits = has_dims dims; d = count_of_differences }

abbrev pub table_metric : List (List ℕ) → MetricSpace
table_metric rows = record { fits = is_row (length rows); d = table_distance rows }

-- the metric of this name, for so many coordinates or over this table
abbrev pub metric_of : MetricKind → ℕ → List (List ℕ) → MetricSpace
metric_of L1 dims rows = l1_metric dims
metric_of Max dims rows = max_metric dims
metric_of Hamming dims rows = hamming_metric dims
metric_of Table dims rows = table_metric rows

-- a metric and a list of pivots
pub record Space : Type 0 where
  pub metric : MetricSpace
  pub pivots : List (List ℤ)
