use Rattle.std.proofs.Common.{◌≡◌, None}
use Rattle.mi_table.specs.Faults.{first_among, diagonal}
use Rattle.mi_table.proofs.checks.check_diagonal.Given as goal

-- the diagonal so far is 0
abbrev pub invariant-loop-i : goal.invariant-loop-i
invariant-loop-i l = first_among l.rows (diagonal l.i) ≡ None
