use Rattle.std.proofs.Common.{◌≡◌, length}
use Rattle.std.specs.List.{AllByRecursion}
use Rattle.mi_base.specs.Configuration.{IsTableRow}
use Rattle.test_values.proofs.tables.table.Given as goal

-- as many rows as were read, each in its bounds
abbrev pub invariant-loop-values : goal.invariant-loop-values
invariant-loop-values l = record {
  many : length l.table ≡ l.values-index;
  each : AllByRecursion IsTableRow l.table;
}
