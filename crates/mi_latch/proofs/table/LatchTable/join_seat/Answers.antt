use Rattle.std.proofs.Common.{rules}
use Rattle.mi_latch.proofs.EndingDoings.{absorbs}
use Rattle.mi_latch.proofs.table.LatchTable.join_seat.Goals as goal

pub join_seat-requires : goal.join_seat-requires
join_seat-requires c = let l = c.requires.live in let u = c.requires.unborn in let b = c.requires.bare in
    (search rules, search rules, b.1, search rules, absorbs _ _ _ l.0 l.1 u.0 u.1 b.2 _ _ _ b.0)
