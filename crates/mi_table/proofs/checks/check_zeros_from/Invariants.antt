use Rattle.std.proofs.Common.{◌≡◌, None}
use Rattle.mi_table.specs.Faults.{first_among, zeros_from}
use Rattle.mi_table.proofs.checks.check_zeros_from.Given as goal

-- the columns so far have no such fault
abbrev pub invariant-loop-j : goal.invariant-loop-j
invariant-loop-j l = first_among l.rows (zeros_from l.j l.i) ≡ None
