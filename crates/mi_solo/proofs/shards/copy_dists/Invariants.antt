use Rattle.std.proofs.Common.{◌≡◌, ◌≤◌, length, take}
use Rattle.mi_solo.proofs.shards.copy_dists.Given as goal

abbrev pub invariant-loop-distance : goal.invariant-loop-distance
invariant-loop-distance l = (l.copy.items ≡ take l.distance-index l.distance-items) × (l.distance-items ≡ l.initial.distance-items) × (length l.initial.distance-items ≤ 32)
