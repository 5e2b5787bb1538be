use Rattle.std.proofs.Common.{◌≡◌, sym, subst, Some}
use Rattle.mi_job.specs.Inserts.{Turned}
use Rattle.mi_job.proofs.inserts.InsertJob.step.Goals as goal

pub returns-in-Some-clause-turned : goal.returns-in-Some-clause-turned
returns-in-Some-clause-turned g c =
    let j = c.args.self.now in
    let u : j.split ≡ Some c.in-Some.split = cc in
    subst (λ x. Turned (record { insert = j.insert; split = x }) (g.W.World.view c.args.world.now) c.divide.result c.divide.new.self (g.W.World.view c.divide.new.world)) (sym u) c.divide.ensures.turned

pub returns-in-None-clause-turned : goal.returns-in-None-clause-turned
returns-in-None-clause-turned g c =
    let j = c.args.self.now in
    let u : c.take.new.self ≡ j.split = cc in
    subst (λ x. Turned (record { insert = j.insert; split = x }) (g.W.World.view c.args.world.now) c.go_on.result c.go_on.new.self (g.W.World.view c.go_on.new.world)) u c.go_on.ensures.turned
