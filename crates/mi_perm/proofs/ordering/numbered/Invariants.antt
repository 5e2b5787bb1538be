use Rattle.std.proofs.Common.{◌≡◌, ◌≤◌, map, length}
use Rattle.std.specs.List.{range_with_len}
use Rattle.mi_perm.specs.Numbered.{number_pair}
use Rattle.mi_perm.proofs.ordering.numbered.Given as goal

abbrev pub invariant-loop-number : goal.invariant-loop-number
invariant-loop-number l = record {
  paired : l.pairs.items ≡ map (number_pair l.distance-items) (range_with_len 0 l.number);
  count : length l.pairs.items ≡ l.number;
  few : length l.distance-items ≤ 32;
}
