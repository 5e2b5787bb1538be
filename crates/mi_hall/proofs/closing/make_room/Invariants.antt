use Rattle.std.proofs.Common.{◌≡◌, length}
use Rattle.mi_hall.proofs.closing.make_room.Given as goal

abbrev pub invariant-loop : goal.invariant-loop
invariant-loop l = length l.rows.items ≡ l.counter
