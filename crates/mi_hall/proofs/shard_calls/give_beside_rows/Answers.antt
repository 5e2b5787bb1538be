use Rattle.std.proofs.Common.{inl, inr, refl}
use Rattle.mi_hall.proofs.shard_calls.give_beside_rows.Goals as goal

pub give-requires-clause-returns : goal.give-requires-clause-returns
give-requires-clause-returns g c = rw c.requires.aim c.requires.returns

pub give-requires-clause-does : goal.give-requires-clause-does
give-requires-clause-does g c = rw c.requires.aim c.requires.does

pub give-requires-clause-notes : goal.give-requires-clause-notes
give-requires-clause-notes g c = rw c.requires.aim (inr (refl, refl, inl (refl, refl)))
