use Rattle.std.proofs.Common.{◌≡◌, ◌*◌}
use Rattle.test_threads.proofs.sessions.visit_all.Given as goal

-- so many visits were made, of four operations each
abbrev pub invariant-loop-number : goal.invariant-loop-number
invariant-loop-number g l = record {
  settings : (g.W.World.view l.session.world).settings ≡ (g.W.World.view l.fn.session.world).settings;
  kin : g.W.Forks.kin l.fn.session.world l.session.world;
  operations : l.session.operations ≡ 4 * l.number;
}
