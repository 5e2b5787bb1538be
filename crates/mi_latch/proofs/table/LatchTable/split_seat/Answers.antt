use Rattle.std.proofs.Common.{rules}
use Rattle.mi_latch.proofs.Parting.{parts}
use Rattle.mi_latch.proofs.table.LatchTable.split_seat.Goals as goal

pub split_seat-requires : goal.split_seat-requires
split_seat-requires c = let b = c.requires.born in (search rules, search rules, parts _ _ _ b.1.0 b.1.1 b.0 b.1.2)
