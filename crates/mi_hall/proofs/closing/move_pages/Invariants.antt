use Rattle.std.proofs.Common.{◌≡◌, ◌++◌, map, vec_capacity}
use Rattle.std.specs.Vec.Iter.{drain_items, drain_kept, drain_capacity, drain_lender}
use Rattle.mi_hall.specs.Closing.{page_in}
use Rattle.mi_hall.proofs.closing.move_pages.Given as goal

abbrev pub invariant-loop-value : goal.invariant-loop-value
invariant-loop-value l = goal.iterator-loop-value.can_next l.value-iterator
    × goal.iterator-loop-value.is_finite l.value-iterator
    × (l.pages.items ++ map page_in (drain_items l.value-iterator) ≡ map page_in (drain_items l.initial.value-iterator))
    × (vec_capacity l.pages ≡ vec_capacity l.initial.pages)
    × (drain_kept l.value-iterator ≡ drain_kept l.initial.value-iterator)
    × (drain_capacity l.value-iterator ≡ drain_capacity l.initial.value-iterator)
    × (drain_lender l.value-iterator ≡ drain_lender l.initial.value-iterator)
