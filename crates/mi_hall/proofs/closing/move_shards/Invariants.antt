use Rattle.std.proofs.Common.{◌≡◌, ◌++◌, map, vec_capacity, None}
use Rattle.std.specs.List.{AllByRecursion}
use Rattle.std.specs.Vec.Iter.{drain_items, drain_kept, drain_capacity, drain_lender}
use Rattle.mi_entries.specs.Records.{held_by}
use Rattle.mi_latch.specs.Takes.{IsShard}
use Rattle.mi_hall.specs.Seats.{rows_in}
use Rattle.mi_hall.proofs.closing.move_shards.Given as goal

abbrev pub invariant-loop-value : goal.invariant-loop-value
invariant-loop-value l = goal.iterator-loop-value.can_next l.value-iterator
    × goal.iterator-loop-value.is_finite l.value-iterator
    × (l.shards.items ++ map (λ x. held_by None (rows_in x)) (drain_items l.value-iterator) ≡ map (λ x. held_by None (rows_in x)) (drain_items l.initial.value-iterator))
    × (vec_capacity l.shards ≡ vec_capacity l.initial.shards)
    × (drain_kept l.value-iterator ≡ drain_kept l.initial.value-iterator)
    × (drain_capacity l.value-iterator ≡ drain_capacity l.initial.value-iterator)
    × (drain_lender l.value-iterator ≡ drain_lender l.initial.value-iterator)
    × AllByRecursion IsShard (drain_items l.value-iterator)
