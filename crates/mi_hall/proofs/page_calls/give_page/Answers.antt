use Rattle.std.proofs.Common.{◌+◌, inr, refl}
use Rattle.mi_latch.proofs.Takes.{returned_rest}
use Rattle.mi_hall.proofs.page_calls.give_page.Goals as goal

pub give-requires-clause-returns : goal.give-requires-clause-returns
give-requires-clause-returns g c = rw c.requires.aim (returned_rest c.args.seat.now.me (c.args.page + 17) _ _ c.requires.last.1)

pub give-requires-clause-does : goal.give-requires-clause-does
give-requires-clause-does g c = rw c.requires.aim c.requires.does

pub give-requires-clause-notes : goal.give-requires-clause-notes
give-requires-clause-notes g c = rw c.requires.aim (inr (refl, refl))
