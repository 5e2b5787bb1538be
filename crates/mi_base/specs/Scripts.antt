-- What may stand in a script.
use Rattle.std.specs.Prelude.{◌≤◌, List, length, IsTrue}
use Rattle.std.specs.List.{AllByRecursion}
use Rattle.mi_base.specs.declared.limits.TheConstants.{MAX_COUNT, MAX_ID, MAX_OPS, MAX_RADIUS}
use Rattle.mi_base.specs.declared.records.Op.{Op}
use Rattle.mi_base.specs.declared.records.Op.TheVariants.{Insert, Delete, Range, Nearest}
use Rattle.mi_base.specs.Space.{MetricSpace}

-- the vector fits, and the numbers lie within their bounds
abbrev pub IsOpOver : MetricSpace → Op → Type 0
IsOpOver m (Insert id vector) = (id ≤ MAX_ID) × IsTrue (m.fits vector)
IsOpOver m (Delete id) = id ≤ MAX_ID
IsOpOver m (Range radius query) = (radius ≤ MAX_RADIUS) × IsTrue (m.fits query)
IsOpOver m (Nearest count query) = (1 ≤ count) × (count ≤ MAX_COUNT) × IsTrue (m.fits query)

pub record IsScriptOver (m : MetricSpace) (ops : List Op) : Type 0 where
  pub few : length ops ≤ MAX_OPS
  pub each : AllByRecursion (IsOpOver m) ops
