use Rattle.std.proofs.Common.{◌≡◌, ◌≤◌, length}
use Rattle.std.specs.List.{AllByRecursion}
use Rattle.test_values.proofs.tables.row.Given as goal

-- as many values as were read, each in its bounds
abbrev pub invariant-loop-value : goal.invariant-loop-value
invariant-loop-value l = record {
  many : length l.row ≡ l.value-index;
  small : AllByRecursion (λ value. value ≤ 128000000) l.row;
}
