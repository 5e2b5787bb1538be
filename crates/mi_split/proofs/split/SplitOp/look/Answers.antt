use Rattle.mi_split.proofs.SplitLemmas.{looks}
use Rattle.mi_split.proofs.split.SplitOp.look.Goals as goal

pub returns-clause-turned : goal.returns-clause-turned
returns-clause-turned g c =
    looks c.args.self.now (g.W.World.view c.args.world.now) (g.W.World.view c.look-look.new.self) c.look-look.result c.requires.ready c.requires.state c.look-look.ensures.told
