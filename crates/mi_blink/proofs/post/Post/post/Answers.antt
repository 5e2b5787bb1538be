use Rattle.std.proofs.Common.{rules}
use Rattle.mi_blink.proofs.TurnLemmas.{posts_down, posts_right, posts_full, posts_wanting, posts_done}
use Rattle.mi_blink.proofs.post.Post.post.Goals as goal

pub returns-in-Down-clause-turned : goal.returns-in-Down-clause-turned
returns-in-Down-clause-turned g c =
    posts_down c.args.self.now (g.W.World.view c.args.world.now) (g.W.World.view c.post.new.self) c.args.page c.requires.ready c.requires.state c.in-Down.page c.in-Down.ensures.told

pub returns-in-Right-clause-turned : goal.returns-in-Right-clause-turned
returns-in-Right-clause-turned g c =
    posts_right c.args.self.now (g.W.World.view c.args.world.now) (g.W.World.view c.post.new.self) c.args.page c.requires.ready c.requires.state c.in-Right.page c.in-Right.ensures.told

pub returns-in-PageFull-clause-turned : goal.returns-in-PageFull-clause-turned
returns-in-PageFull-clause-turned g c =
    posts_full c.args.self.now (g.W.World.view c.args.world.now) (g.W.World.view c.post.new.self) c.args.page c.requires.ready c.requires.state c.in-PageFull.ensures.told (search rules)

pub returns-in-PageFull-2-clause-turned : goal.returns-in-PageFull-2-clause-turned
returns-in-PageFull-2-clause-turned g c =
    posts_wanting c.args.self.now (g.W.World.view c.args.world.now) (g.W.World.view c.post.new.self) c.args.page c.requires.ready c.requires.state c.in-PageFull-2.ensures.told (search rules)

pub returns-in-Done-clause-turned : goal.returns-in-Done-clause-turned
returns-in-Done-clause-turned g c =
    posts_done c.args.self.now (g.W.World.view c.args.world.now) (g.W.World.view c.post.new.self) c.args.page c.requires.ready c.requires.state c.resume.new.self c.resume.result c.in-Done.ensures.told c.resume.ensures
