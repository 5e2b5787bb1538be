use Rattle.std.proofs.Common.{◌≡◌, ◌≤◌, length, take}
use Rattle.mi_base.proofs.prefixes.Prefix.copy.Given as goal

abbrev pub invariant-loop-pivot : goal.invariant-loop-pivot
invariant-loop-pivot l = (l.pivots.items ≡ take l.pivot-index l.pivot-items) × (l.pivot-items ≡ l.initial.pivot-items) × (length l.initial.pivot-items ≤ 6)
