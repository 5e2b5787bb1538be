use Rattle.std.proofs.Common.{◌≡◌, ◌<◌, ◌≤◌, ◌+◌, ◌^◌, length, map, take, IsTrue}
use Rattle.std.specs.Int.Digits.{number_from_digits}
use Rattle.mi_base.specs.Prefixes.{all_below}
use Rattle.mi_key.specs.Clusters.{digit_of}
use Rattle.mi_key.proofs.clusters.unpadded_number.Given as goal

-- the digits so far
abbrev pub invariant-loop-pivot : goal.invariant-loop-pivot
invariant-loop-pivot l = record {
  so_far : l.number ≡ number_from_digits (l.pivots + 1) (map digit_of (take l.pivot-index l.pivot-items));
  small : l.number < (l.pivots + 1) ^ l.pivot-index;
  few : length l.pivot-items ≤ 6;
  below : IsTrue (all_below l.pivots l.pivot-items);
}
