use Rattle.std.proofs.Common.{inr, refl}
use Rattle.mi_latch.specs.Takes.{released}
use Rattle.mi_latch.specs.Views.{with_part}
use Rattle.mi_latch.proofs.Takes.{release_does, returned_rest}
use Rattle.mi_hall.proofs.shard_calls.give_shard.Goals as goal

pub give-requires-clause-returns : goal.give-requires-clause-returns
give-requires-clause-returns g c = let m = c.args.seat.now.me in rw c.requires.aim (returned_rest m _ _ (with_part (released m.0.mine.part) m.0.mine) c.requires.last)

pub give-requires-clause-does : goal.give-requires-clause-does
give-requires-clause-does g c = let m = c.args.seat.now.me in rw c.requires.aim (release_does _ _ m _ c.requires.holds c.requires.last)

pub give-requires-clause-notes : goal.give-requires-clause-notes
give-requires-clause-notes g c = rw c.requires.aim (inr (refl, refl))
