use Rattle.std.proofs.Common.{rules}
use Rattle.mi_make.proofs.FitLemmas.{made_may_run}
use Rattle.mi_make.proofs.workload.make.Goals as goal

pub returns-clause-runs : goal.returns-clause-runs
returns-clause-runs c = made_may_run c.args.seed _ (record { settings = search rules; scripts = search rules; schedule = search rules })
