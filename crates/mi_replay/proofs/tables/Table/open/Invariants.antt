use Rattle.std.proofs.Common.{◌≡◌, length}
use Rattle.mi_replay.proofs.TableOpening.{AreEmpty}
use Rattle.mi_replay.proofs.tables.Table.open.Given as goal

abbrev pub invariant-loop-script : goal.invariant-loop-script
invariant-loop-script l = record { count : length l.seats.items ≡ l.script-index; empty : AreEmpty l.scripts l.seats.items }
