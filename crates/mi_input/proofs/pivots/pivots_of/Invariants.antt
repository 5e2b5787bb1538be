use Rattle.std.proofs.Common.{◌≡◌, ◌+◌, ◌≤◌, codes, length}
use Rattle.mi_input.specs.Records.{run_of}
use Rattle.mi_input.specs.Settings.{pivot_in, pivots_in}
use Rattle.mi_input.proofs.RunLemmas.{run_ahead}
use Rattle.mi_input.proofs.pivots.pivots_of.Given as goal

-- what was read and what is left is what is read from the first pivot on
abbrev pub invariant-loop-records : goal.invariant-loop-records
invariant-loop-records l = record {
  so_far : run_ahead l.pivots (run_of (codes "pivot") (pivot_in l.shape) (length l.pivots) l.records.number l.records.records) ≡ pivots_in l.shape l.fn.records;
  few : length l.pivots ≤ 32;
  number : l.records.number ≡ l.fn.records.number + length l.pivots;
}

abbrev pub decreases-loop-records : goal.decreases-loop-records
decreases-loop-records l = length l.records.records
