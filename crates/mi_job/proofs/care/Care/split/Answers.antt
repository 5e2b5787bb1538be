use Rattle.mi_job.proofs.CareLemmas.{splits_on}
use Rattle.mi_job.proofs.care.Care.split.Goals as goal

pub returns-in-More-clause-turned : goal.returns-in-More-clause-turned
returns-in-More-clause-turned g c =
    splits_on c.args.split c.step.new.self (g.W.World.view c.args.world.now) (g.W.World.view c.step.new.world) c.requires.ready c.in-More.ensures.turned
