use Rattle.mi_replay.proofs.TableOpening.{OverBelow}
use Rattle.mi_replay.proofs.tables.Table.is_over.Given as goal

abbrev pub invariant-loop-number : goal.invariant-loop-number
invariant-loop-number l = OverBelow l.scripts l.self.seats.items l.number
