use Rattle.std.proofs.Common.{◌≡◌, None}
use Rattle.mi_table.specs.Faults.{first_among, triangles_through}
use Rattle.mi_table.proofs.checks.check_triangles_through.Given as goal

-- the columns so far have no such fault
abbrev pub invariant-loop-k : goal.invariant-loop-k
invariant-loop-k l = first_among l.rows (triangles_through l.k l.i l.j) ≡ None
