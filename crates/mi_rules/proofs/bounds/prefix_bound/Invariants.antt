use Rattle.std.proofs.Common.{◌≡◌, ℕ, nat_le, length, take}
use Rattle.std.specs.Prelude.{slice_index}
use Rattle.std.specs.List.{list_all, range_with_len}
use Rattle.mi_rules.specs.Passing.{none_nearer}
use Rattle.mi_rules.proofs.bounds.prefix_bound.Given as goal

-- the bound for the places so far
abbrev pub invariant-loop-place : goal.invariant-loop-place
invariant-loop-place l = (r : ℕ) → list_all (λ i. none_nearer l.query.items r (take i l.prefix) (slice_index l.query.items (slice_index l.prefix i))) (take l.place (range_with_len 0 (length l.prefix))) ≡ nat_le l.bound r
