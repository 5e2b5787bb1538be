use Rattle.mi_split.proofs.SplitLemmas.{halves, halves_not}
use Rattle.mi_split.proofs.split.SplitOp.halve.Goals as goal

pub returns-in-Parted-clause-turned : goal.returns-in-Parted-clause-turned
returns-in-Parted-clause-turned g c =
    halves c.args.self.now (g.W.World.view c.args.world.now) (g.W.World.view c.split_page.new.self) c.args.page c.requires.ready c.requires.state c.in-Parted.key c.in-Parted.child c.new.result c.new.ensures c.in-Parted.ensures.told

pub returns-in-Roomy-clause-turned : goal.returns-in-Roomy-clause-turned
returns-in-Roomy-clause-turned g c =
    halves_not c.args.self.now (g.W.World.view c.args.world.now) (g.W.World.view c.split_page.new.self) c.args.page c.requires.ready c.requires.state c.in-Roomy.ensures.told
