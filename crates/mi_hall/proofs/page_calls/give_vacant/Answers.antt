use Rattle.std.proofs.Common.{inl, refl}
use Rattle.mi_latch.proofs.Takes.{back_does, plain_page, returned_rest}
use Rattle.mi_hall.proofs.page_calls.give_vacant.Goals as goal

pub give-requires-clause-returns : goal.give-requires-clause-returns
give-requires-clause-returns g c = let m = c.args.seat.now.me in rw c.requires.aim (returned_rest m _ _ m.0.mine c.requires.last)

pub give-requires-clause-does : goal.give-requires-clause-does
give-requires-clause-does g c = let m = c.args.seat.now.me in rw c.requires.aim (back_does _ _ m _ c.requires.last (plain_page _))

pub give-requires-clause-notes : goal.give-requires-clause-notes
give-requires-clause-notes g c = rw c.requires.aim (inl refl)
