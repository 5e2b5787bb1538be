use Rattle.std.proofs.Common.{◌≡◌, None, length}
use Rattle.mi_table.specs.Faults.{faults_of_each, first_among, triangles_through}
use Rattle.mi_table.proofs.checks.check_triangles_from.Given as goal

-- the ways so far have no such fault
abbrev pub invariant-loop-j : goal.invariant-loop-j
invariant-loop-j l = first_among l.rows (faults_of_each l.j (triangles_through (length l.rows) l.i)) ≡ None
