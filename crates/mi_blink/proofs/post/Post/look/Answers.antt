use Rattle.std.proofs.Common.{arith, rules}
use Rattle.mi_blink.proofs.LookLemmas.{looks_up, looks_wide, looks_grown}
use Rattle.mi_blink.proofs.post.Post.look.Goals as goal

pub returns-then-self-look-clause-turned : goal.returns-then-self-look-clause-turned
returns-then-self-look-clause-turned g c =
    looks_up c.args.self.now (g.W.World.view c.args.world.now) (g.W.World.view c.look-look.new.self) c.look-look.result c.requires.ready c.requires.state c.look-look.ensures.told (omega arith)

pub returns-then-fresh-clause-turned : goal.returns-then-fresh-clause-turned
returns-then-fresh-clause-turned g c =
    looks_grown c.args.self.now (g.W.World.view c.args.world.now) (g.W.World.view c.look-look.new.self) c.look-look.result c.requires.ready c.requires.state c.look-look.ensures.told (omega arith) (search rules)

pub returns-clause-turned : goal.returns-clause-turned
returns-clause-turned g c =
    looks_wide c.args.self.now (g.W.World.view c.args.world.now) (g.W.World.view c.look-look.new.self) c.look-look.result c.requires.ready c.requires.state c.look-look.ensures.told (omega arith) (search rules)
