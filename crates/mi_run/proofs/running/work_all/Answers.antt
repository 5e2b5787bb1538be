use Rattle.std.proofs.Common.{reverse, subst, sym}
use Rattle.std.specs.List.{AllZip}
use Rattle.std.proofs.lemmas.List.{reverse-reverse}
use Rattle.mi_run.specs.Workers.{HasWorked}
use Rattle.mi_run.proofs.CrewLemmas.{zip_reverse}
use Rattle.mi_run.proofs.running.work_all.Goals as goal

pub returns : goal.returns
returns g c =
    let olds = c.args.workers.now in
    let news = c.work_beside.new.workers in
    let z : AllZip HasWorked (reverse olds) news = subst (λ l. AllZip HasWorked l news) c.reverse.ensures.after c.work_beside.ensures in
    subst (λ l. AllZip HasWorked olds l) (sym c.reverse-2.ensures.after)
    (subst (λ l. AllZip HasWorked l (reverse news)) (reverse-reverse olds) (zip_reverse HasWorked (reverse olds) news z))
