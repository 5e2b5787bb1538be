use Rattle.std.proofs.Common.{◌≡◌, ◌++◌, vec_capacity}
use Rattle.std.specs.Vec.Iter.{drain_items, drain_kept, drain_capacity, drain_lender}
use Rattle.mi_page.proofs.pages.move_upper.Given as goal

abbrev pub invariant-loop-item : goal.invariant-loop-item
invariant-loop-item g l = (goal.iterator-loop-item g).can_next l.item-iterator
    × (goal.iterator-loop-item g).is_finite l.item-iterator
    × (l.to.items ++ drain_items l.item-iterator ≡ l.initial.to.items ++ drain_items l.initial.item-iterator)
    × (vec_capacity l.to ≡ vec_capacity l.initial.to)
    × (drain_kept l.item-iterator ≡ drain_kept l.initial.item-iterator)
    × (drain_capacity l.item-iterator ≡ drain_capacity l.initial.item-iterator)
    × (drain_lender l.item-iterator ≡ drain_lender l.initial.item-iterator)
