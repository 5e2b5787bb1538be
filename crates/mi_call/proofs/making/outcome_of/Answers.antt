use Rattle.std.proofs.Common.{sym, subst}
use Rattle.mi_make.specs.Workloads.{IsMade, MayBeRun}
use Rattle.mi_call.proofs.MakeLemmas.{made_items, outcome_made}
use Rattle.mi_call.proofs.making.outcome_of.Goals as goal

pub replay-requires-clause-scripts : goal.replay-requires-clause-scripts
replay-requires-clause-scripts c =
    let runs = subst MayBeRun (sym c.workload.view_is) c.in_ok-workload.ensures.runs in
    rw c.as_slice.ensures runs.scripts

pub replay-requires-clause-schedule : goal.replay-requires-clause-schedule
replay-requires-clause-schedule c =
    let made = subst (IsMade c.args.seed) (sym c.workload.view_is) c.in_ok-workload.ensures.made in
    let runs = subst MayBeRun (sym c.workload.view_is) c.in_ok-workload.ensures.runs in
    made_items c.args.seed _ c.as_slice.result.now c.as_slice.ensures made runs

pub returns : goal.returns
returns c =
    outcome_made c.args.seed _ c.in_ok-workload.workload c.as_slice.result.now c.replay.result c.workload.view_is c.in_ok-workload.ensures.made c.as_slice.ensures c.replay.ensures
