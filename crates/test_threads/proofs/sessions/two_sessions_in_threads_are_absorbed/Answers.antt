use Rattle.mi_base.specs.Configuration.{metric_space}
use Rattle.test_threads.proofs.TestLemmas.{line_is_metric}
use Rattle.test_threads.proofs.sessions.two_sessions_in_threads_are_absorbed.Goals as goal

pub open-requires : goal.open-requires
open-requires g c = record { metric = line_is_metric (metric_space c.in_ok-settings.settings) c.in_ok-settings.ensures }
