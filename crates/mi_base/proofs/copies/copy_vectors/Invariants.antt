use Rattle.std.proofs.Common.{◌≡◌, take}
use Rattle.mi_base.proofs.copies.copy_vectors.Given as goal

abbrev pub invariant-loop-vector : goal.invariant-loop-vector
invariant-loop-vector l = l.copy ≡ take l.vector-index l.vector-items
