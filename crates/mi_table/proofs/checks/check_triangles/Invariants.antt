use Rattle.std.proofs.Common.{◌≡◌, None, length}
use Rattle.mi_table.specs.Faults.{faults_of_each, first_among, triangles_from}
use Rattle.mi_table.proofs.checks.check_triangles.Given as goal

-- the rows so far have no such fault
abbrev pub invariant-loop-i : goal.invariant-loop-i
invariant-loop-i l = first_among l.rows (faults_of_each l.i (triangles_from (length l.rows))) ≡ None
