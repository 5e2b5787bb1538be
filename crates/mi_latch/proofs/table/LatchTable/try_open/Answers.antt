use Rattle.std.proofs.Common.{rules}
use Rattle.mi_latch.specs.Takes.{Finds, miss_none, missed_none, see_none}
use Rattle.mi_latch.proofs.Takes.{got, tries_open}
use Rattle.mi_latch.proofs.table.LatchTable.try_open.Goals as goal

pub compare_exchange-requires : goal.compare_exchange-requires
compare_exchange-requires g c = let s = c.requires.seat in (search rules, search rules, rw c.requires.of (tries_open _ _ _ _ _ _ c.requires.plain c.requires.table.1 s.0 s.1))

pub returns-then-compare_exchange-eq0-clause-took : goal.returns-then-compare_exchange-eq0-clause-took
returns-then-compare_exchange-eq0-clause-took g c = let s = c.requires.seat in got see_none (Finds _) miss_none missed_none _ _ _ _ _ _ s.0 c.compare_exchange.ensures.2 c.if-compare_exchange-eq0.true c.exchange.ensures.2 c.exchange.ensures.3
