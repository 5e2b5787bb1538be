use Rattle.std.proofs.Common.{◌≡◌, take}
use Rattle.mi_perm.proofs.measuring.Pivots.new.Given as goal

abbrev pub invariant-loop-pivot : goal.invariant-loop-pivot
invariant-loop-pivot l = l.copy ≡ take l.pivot-index l.pivot-items
