use Rattle.std.proofs.Common.{◌≡◌}
use Rattle.mi_latch.proofs.table.LatchTable.take_slot.Given as goal

abbrev pub invariant-loop : goal.invariant-loop
invariant-loop g l = record {
  table : l.seat.table_id ≡ l.fn.seat.table_id;
  id : l.seat.id ≡ l.fn.seat.id;
  same : l.seat.me ≡ l.fn.seat.me;
  can : (goal.iterator-loop g).can_next l.iterator';
  finite : (goal.iterator-loop g).is_finite l.iterator';
}
