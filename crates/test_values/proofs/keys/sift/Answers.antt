use Rattle.std.proofs.Common.{[], ◌∷◌}
use Rattle.mi_key.specs.Entries.{offering_of}
use Rattle.test_values.proofs.keys.sift.Goals as goal

pub returns : goal.returns
returns g c = g.met.S.Sieve.more c.args.sieve.now c.room.new.self c.offer.new.self [] (offering_of c.args.entry.now ∷ []) c.in_ok-room.ensures.same c.offer.ensures.offered
