use Rattle.std.proofs.Common.{◌≡◌, ◌++◌, replicate}
use Rattle.mi_latch.specs.declared.slots.Slot.TheVariants.{OfShard}
use Rattle.mi_latch.specs.Layout.{no_rows}
use Rattle.mi_latch.proofs.ends.push_shards.Given as goal

abbrev pub invariant-loop : goal.invariant-loop
invariant-loop l = l.slots.items ≡ l.fn.slots.items ++ replicate l.counter (OfShard no_rows)
