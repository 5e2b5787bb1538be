use Rattle.std.proofs.Common.{rules}
use Rattle.mi_latch.proofs.Takes.{gives}
use Rattle.mi_latch.proofs.table.LatchTable.give.Goals as goal

pub store-requires : goal.store-requires
store-requires g c = (search rules, search rules, gives _ _ _ _ c.args.seat.now.me _ _ _ c.exchange-vacant.ensures.3 c.requires.returns c.requires.does)
