use Rattle.mi_blink.proofs.TurnLemmas.{widens, widens_none, widens_memory}
use Rattle.mi_blink.proofs.post.Post.widen.Goals as goal

pub returns-in-Ok-clause-turned : goal.returns-in-Ok-clause-turned
returns-in-Ok-clause-turned g c =
    widens c.args.self.now (g.W.World.view c.args.world.now) (g.W.World.view c.allot.new.self) c.requires.ready c.requires.state _ c.in-Ok.ensures.told

pub returns-in-Err-PagesFull-clause-turned : goal.returns-in-Err-PagesFull-clause-turned
returns-in-Err-PagesFull-clause-turned g c =
    widens_none c.args.self.now (g.W.World.view c.args.world.now) (g.W.World.view c.allot.new.self) c.requires.ready c.requires.state c.resume.new.self c.resume.result c.in-Err-PagesFull.limit (rw c.in-Err-PagesFull.field-0-is at c.in-Err-PagesFull.ensures.told) c.resume.ensures

pub returns-in-Err-Memory-clause-turned : goal.returns-in-Err-Memory-clause-turned
returns-in-Err-Memory-clause-turned g c =
    widens_memory c.args.self.now (g.W.World.view c.args.world.now) (g.W.World.view c.allot.new.self) c.requires.ready c.requires.state c.resume-in-Err-Memory.new.self c.resume-in-Err-Memory.result (rw c.in-Err-Memory.field-0-is at c.in-Err-Memory.ensures.told) c.resume-in-Err-Memory.ensures
