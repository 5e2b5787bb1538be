use Rattle.std.proofs.Common.{sym, subst, Some}
use Rattle.mi_job.specs.declared.care.CareTurn.TheVariants.{More}
use Rattle.mi_job.specs.declared.care.Task.TheVariants.{Sweep, Split}
use Rattle.mi_job.specs.Caring.{Ready, Turned}
use Rattle.mi_job.proofs.CareLemmas.{begins_split, begins_sweep}
use Rattle.mi_job.proofs.care.Care.begin.Goals as goal

pub returns-in-Sweep-clause-turned : goal.returns-in-Sweep-clause-turned
returns-in-Sweep-clause-turned g c =
    let v = g.W.World.view c.args.world.now in
    subst (λ x. Turned (record { task = x }) v More (record { task = Some (Sweep c.new.result) }) (g.W.World.view c.next_work.new.self)) (sym c.requires.none)
    (begins_sweep v (g.W.World.view c.next_work.new.self) (subst (λ x. Ready (record { task = x }) v) c.requires.none c.requires.ready) c.in-Sweep.prefix c.new.result c.new.ensures c.in-Sweep.ensures.told)

pub returns-in-Split-clause-turned : goal.returns-in-Split-clause-turned
returns-in-Split-clause-turned g c =
    let v = g.W.World.view c.args.world.now in
    subst (λ x. Turned (record { task = x }) v More (record { task = Some (Split c.new-in-Split.result) }) (g.W.World.view c.next_work.new.self)) (sym c.requires.none)
    (begins_split v (g.W.World.view c.next_work.new.self) (subst (λ x. Ready (record { task = x }) v) c.requires.none c.requires.ready) c.in-Split.leaf c.new-in-Split.result c.new-in-Split.ensures c.in-Split.ensures.told)
