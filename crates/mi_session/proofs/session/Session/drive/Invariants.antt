use Rattle.std.proofs.Common.{◌≡◌}
use Rattle.mi_base.specs.Configuration.{metric_space}
use Rattle.mi_session.proofs.SessionLemmas.{Driving}
use Rattle.mi_session.proofs.session.Session.drive.Given as goal

-- the operation is under way
abbrev pub invariant-loop : goal.invariant-loop
invariant-loop g l = record {
  driving : Driving l.fn.op l.number l.fn.steps (g.W.World.view l.initial.self-inside.world) l.job (g.W.World.view l.self-inside.world) l.steps;
  kin : g.W.Forks.kin l.initial.self-inside.world l.self-inside.world;
  counted : l.self-inside.operations ≡ l.number;
  space : g.M.Metric.space l.self-inside.metric.now ≡ metric_space (g.W.World.view l.initial.self-inside.world).settings;
  pivots : l.self-inside.pivots.now ≡ (g.W.World.view l.initial.self-inside.world).settings.pivots;
}
