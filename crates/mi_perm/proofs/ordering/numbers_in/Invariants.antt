use Rattle.std.proofs.Common.{◌≡◌, ◌≤◌, ℕ, map, length, take}
use Rattle.mi_perm.proofs.ordering.numbers_in.Given as goal

abbrev pub invariant-loop-number : goal.invariant-loop-number
invariant-loop-number l = record {
  kept : l.numbers.items ≡ map (λ (p : ℕ × ℕ). p.1) (take l.number-index l.pairs.items);
  few : length l.pairs.items ≤ 32;
}
