use Rattle.std.proofs.Common.{subst, arith}
use Rattle.std.specs.Prelude.{slice_index_or}
use Rattle.mi_run.specs.Workers.{HasWorked}
use Rattle.mi_run.proofs.CrewLemmas.{zip_from}
use Rattle.mi_run.proofs.running.work_beside.Goals as goal

pub returns : goal.returns
returns g c =
    let olds = c.args.workers.now in
    let news = c.for_each_mut.new.s in
    zip_from HasWorked olds news (omega (arith, c.for_each_mut.auto.s)) (λ i d lt.
    let at = (c.for_each_mut.ensures i d lt).1 in
    subst (λ x. HasWorked x (slice_index_or news i d)) at.argument_is (subst (HasWorked at.argument.now) at.left at.call))
