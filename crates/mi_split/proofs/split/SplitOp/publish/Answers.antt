use Rattle.mi_split.proofs.SplitLemmas.{publishes, publishes_not, on_answer}
use Rattle.mi_split.proofs.split.SplitOp.publish.Goals as goal

pub returns-in-Ok-clause-turned : goal.returns-in-Ok-clause-turned
returns-in-Ok-clause-turned g c =
    publishes c.args.self.now (g.W.World.view c.args.world.now) (g.W.World.view c.publish.new.self) c.requires.ready c.requires.state c.in-Ok.at c.in-Ok.ensures.told

pub returns-in-Err-clause-turned : goal.returns-in-Err-clause-turned
returns-in-Err-clause-turned g c =
    on_answer c.args.self.now c.go_back.new.self _ (g.W.World.view c.args.world.now) (g.W.World.view c.publish.new.self) c.go_back.result c.go_back.ensures.answer c.go_back.ensures.back
    (publishes_not c.args.self.now (g.W.World.view c.args.world.now) (g.W.World.view c.publish.new.self) c.requires.ready c.requires.state _ c.in-Err.ensures.told)
