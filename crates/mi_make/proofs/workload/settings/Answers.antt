use Rattle.mi_make.proofs.WorkloadLemmas.{within_limits}
use Rattle.mi_make.proofs.workload.settings.Goals as goal

pub invariant_of-result : goal.invariant_of-result
invariant_of-result c = within_limits c.args.seed c.new.result c.args.pivots c.new.ensures c.requires
