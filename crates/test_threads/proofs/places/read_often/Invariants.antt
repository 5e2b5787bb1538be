use Rattle.std.proofs.Common.{◌≡◌, None}
use Rattle.test_threads.proofs.places.read_often.Given as goal

-- nothing is pinned between two rounds
abbrev pub invariant-loop : goal.invariant-loop
invariant-loop g l = (g.W.World.view l.world).pin ≡ None
