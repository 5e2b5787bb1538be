use Rattle.std.proofs.Common.{◌≡◌, None}
use Rattle.mi_table.specs.Faults.{first_among, lengths}
use Rattle.mi_table.proofs.checks.check_lengths.Given as goal

-- the rows so far are as long as the table
abbrev pub invariant-loop-row : goal.invariant-loop-row
invariant-loop-row l = first_among l.rows (lengths l.row) ≡ None
