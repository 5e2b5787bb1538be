use Rattle.std.proofs.Common.{sym, subst, Some}
use Rattle.mi_job.specs.declared.turns.JobTurn.TheVariants.{More, Held, Done}
use Rattle.mi_job.specs.Inserts.{Ready, Turned}
use Rattle.mi_job.proofs.InsertLemmas.{insert_more, insert_held, insert_done, insert_crowded}
use Rattle.mi_job.proofs.inserts.InsertJob.go_on.Goals as goal

pub returns-in-More-clause-turned : goal.returns-in-More-clause-turned
returns-in-More-clause-turned g c =
    let i = c.args.self.now.insert in
    let v = g.W.World.view c.args.world.now in
    subst (λ x. Turned (record { insert = i; split = x }) v More (record { insert = c.step.new.self; split = x }) (g.W.World.view c.step.new.world)) (sym c.requires.none)
    (insert_more i c.step.new.self v (g.W.World.view c.step.new.world) (subst (λ x. Ready (record { insert = i; split = x }) v) c.requires.none c.requires.ready) c.in-More.ensures.turned)

pub returns-in-Held-clause-turned : goal.returns-in-Held-clause-turned
returns-in-Held-clause-turned g c =
    let i = c.args.self.now.insert in
    let v = g.W.World.view c.args.world.now in
    subst (λ x. Turned (record { insert = i; split = x }) v Held (record { insert = c.step.new.self; split = x }) (g.W.World.view c.step.new.world)) (sym c.requires.none)
    (insert_held i c.step.new.self v (g.W.World.view c.step.new.world) (subst (λ x. Ready (record { insert = i; split = x }) v) c.requires.none c.requires.ready) c.in-Held.ensures.turned)

pub returns-in-Crowded-clause-turned : goal.returns-in-Crowded-clause-turned
returns-in-Crowded-clause-turned g c =
    let i = c.args.self.now.insert in
    let v = g.W.World.view c.args.world.now in
    subst (λ x. Turned (record { insert = i; split = x }) v More (record { insert = c.step.new.self; split = Some c.new.result }) (g.W.World.view c.step.new.world)) (sym c.requires.none)
    (insert_crowded i c.step.new.self v (g.W.World.view c.step.new.world) (subst (λ x. Ready (record { insert = i; split = x }) v) c.requires.none c.requires.ready) c.in-Crowded.leaf c.new.result c.new.ensures c.in-Crowded.ensures.turned)

pub returns-in-Done-clause-turned : goal.returns-in-Done-clause-turned
returns-in-Done-clause-turned g c =
    let i = c.args.self.now.insert in
    let v = g.W.World.view c.args.world.now in
    subst (λ x. Turned (record { insert = i; split = x }) v (Done c.in-Done.reply) (record { insert = c.step.new.self; split = x }) (g.W.World.view c.step.new.world)) (sym c.requires.none)
    (insert_done i c.step.new.self v (g.W.World.view c.step.new.world) (subst (λ x. Ready (record { insert = i; split = x }) v) c.requires.none c.requires.ready) c.in-Done.reply c.in-Done.ensures.turned)
