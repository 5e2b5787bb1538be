use Rattle.std.proofs.Common.{◌≡◌, ◌+◌, ◌≤◌, drop, length}
use Rattle.std.specs.List.{AllByRecursion}
use Rattle.mi_base.specs.declared.limits.TheConstants.{MAX_DISTANCE}
use Rattle.csv.specs.Records.{fields_of}
use Rattle.mi_input.specs.Numbers.{count_in}
use Rattle.mi_input.specs.Records.{read_each}
use Rattle.mi_input.proofs.EachLemmas.{with_front}
use Rattle.mi_input.proofs.tables.values_of.Given as goal

-- what was read and what is left is what is read from the first value on
abbrev pub invariant-loop-place : goal.invariant-loop-place
invariant-loop-place l = record {
  so_far : with_front l.row (read_each (count_in 0 MAX_DISTANCE) (drop l.place (fields_of l.fields))) ≡ read_each (count_in 0 MAX_DISTANCE) (drop 1 (fields_of l.fields));
  small : AllByRecursion (λ value. value ≤ MAX_DISTANCE) l.row;
  count : length l.row + 1 ≡ l.place;
}
