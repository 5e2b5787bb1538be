use Rattle.std.proofs.Common.{sym, subst, true}
use Rattle.mi_job.specs.declared.job.Operation.TheVariants.{Insert, Delete, Range, Nearest}
use Rattle.mi_job.specs.Jobs.{OperationIsReady, Turned}
use Rattle.mi_job.proofs.JobLemmas.{delete_turned, insert_turned}
use Rattle.mi_job.proofs.NearestLemmas.{nearest_turned}
use Rattle.mi_job.proofs.RangeLemmas.{range_turned}
use Rattle.mi_job.proofs.job.Job.step.Goals as goal

pub returns-in-Insert-clause-turned : goal.returns-in-Insert-clause-turned
returns-in-Insert-clause-turned g c =
    let j = c.args.self.now in
    let v = g.W.World.view c.args.world.now in
    let w = g.W.World.view c.step.new.world in
    subst (λ o. Turned (record { operation = o; begun = j.begun }) v c.step.result (record { operation = Insert c.step.new.self; begun = true }) w) (sym c.in-Insert.is)
    (insert_turned c.in-Insert.insert c.step.new.self j.begun v w c.step.result c.step.ensures.turned)

pub returns-in-Delete-clause-turned : goal.returns-in-Delete-clause-turned
returns-in-Delete-clause-turned g c =
    let j = c.args.self.now in
    let v = g.W.World.view c.args.world.now in
    let w = g.W.World.view c.step-in-Delete.new.world in
    let ready = subst (λ o. OperationIsReady o j.begun v) c.in-Delete.is c.requires.ready.operation in
    subst (λ o. Turned (record { operation = o; begun = j.begun }) v c.told.result (record { operation = Delete c.step-in-Delete.new.self; begun = true }) w) (sym c.in-Delete.is)
    (delete_turned c.in-Delete.delete c.step-in-Delete.new.self j.begun v w ready.0 ready.1 c.step-in-Delete.result c.told.result c.step-in-Delete.ensures.turned c.told.ensures)

pub returns-in-Range-clause-turned : goal.returns-in-Range-clause-turned
returns-in-Range-clause-turned g c =
    let j = c.args.self.now in
    let v = g.W.World.view c.args.world.now in
    let w = g.W.World.view c.step-in-Range.new.world in
    let ready = subst (λ o. OperationIsReady o j.begun v) c.in-Range.is c.requires.ready.operation in
    subst (λ o. Turned (record { operation = o; begun = j.begun }) v c.told-in-Range.result (record { operation = Range c.step-in-Range.new.self c.in-Range.number; begun = true }) w) (sym c.in-Range.is)
    (range_turned c.in-Range.range c.step-in-Range.new.self c.in-Range.number j.begun v w ready.0 ready.1 ready.2 c.step-in-Range.result c.told-in-Range.result c.step-in-Range.ensures.turned c.told-in-Range.ensures)

pub returns-in-Nearest-clause-turned : goal.returns-in-Nearest-clause-turned
returns-in-Nearest-clause-turned g c =
    let j = c.args.self.now in
    let v = g.W.World.view c.args.world.now in
    let w = g.W.World.view c.step-in-Nearest.new.world in
    let ready = subst (λ o. OperationIsReady o j.begun v) c.in-Nearest.is c.requires.ready.operation in
    subst (λ o. Turned (record { operation = o; begun = j.begun }) v c.told-in-Nearest.result (record { operation = Nearest c.step-in-Nearest.new.self c.in-Nearest.number; begun = true }) w) (sym c.in-Nearest.is)
    (nearest_turned c.in-Nearest.nearest c.step-in-Nearest.new.self c.in-Nearest.number j.begun v w ready.0 ready.1 ready.2 c.step-in-Nearest.result c.told-in-Nearest.result c.step-in-Nearest.ensures.turned c.told-in-Nearest.ensures)
