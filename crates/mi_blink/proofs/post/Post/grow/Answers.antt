use Rattle.mi_blink.proofs.TurnLemmas.{grows, grows_not}
use Rattle.mi_blink.proofs.post.Post.grow.Goals as goal

pub returns-then-grow-clause-turned : goal.returns-then-grow-clause-turned
returns-then-grow-clause-turned g c =
    grows c.args.self.now (g.W.World.view c.args.world.now) (g.W.World.view c.grow.new.self) c.requires.ready c.requires.state c.resume.new.self c.resume.result c.if-grow.ensures.told c.resume.ensures

pub returns-else-grow-clause-turned : goal.returns-else-grow-clause-turned
returns-else-grow-clause-turned g c =
    grows_not c.args.self.now (g.W.World.view c.args.world.now) (g.W.World.view c.grow.new.self) c.requires.ready c.requires.state c.if-grow.ensures.told
