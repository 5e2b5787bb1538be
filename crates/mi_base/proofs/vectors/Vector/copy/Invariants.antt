use Rattle.std.proofs.Common.{◌≡◌, ◌≤◌, length, take}
use Rattle.mi_base.proofs.vectors.Vector.copy.Given as goal

abbrev pub invariant-loop-x : goal.invariant-loop-x
invariant-loop-x l = (l.coordinates.items ≡ take l.x-index l.x-items) × (l.x-items ≡ l.initial.x-items) × (length l.initial.x-items ≤ 64)
