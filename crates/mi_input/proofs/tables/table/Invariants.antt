use Rattle.std.proofs.Common.{◌≡◌, ◌+◌, ◌≤◌, codes, length}
use Rattle.std.specs.List.{AllByRecursion}
use Rattle.mi_base.specs.Configuration.{IsTableRow}
use Rattle.mi_input.specs.Records.{run_of}
use Rattle.mi_input.specs.Settings.{row_in, table_in}
use Rattle.mi_input.proofs.RunLemmas.{run_ahead}
use Rattle.mi_input.proofs.tables.table.Given as goal

-- what was read and what is left is what is read from the first row on
abbrev pub invariant-loop-alloc : goal.invariant-loop-alloc
invariant-loop-alloc l = record {
  so_far : run_ahead l.rows (run_of (codes "row") row_in (length l.rows) l.records.number l.records.records) ≡ table_in l.fn.records;
  each : AllByRecursion IsTableRow l.rows;
  some : 1 ≤ length l.rows;
  few : length l.rows ≤ 128;
  number : l.records.number ≡ l.fn.records.number + length l.rows;
}

abbrev pub decreases-loop-alloc : goal.decreases-loop-alloc
decreases-loop-alloc l = length l.records.records
