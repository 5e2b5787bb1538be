use Rattle.std.proofs.Common.{rules}
use Rattle.mi_split.proofs.SplitLemmas.{copies_down, copies_right, copies_full, copies_wanting, copies_done, on_answer}
use Rattle.mi_split.proofs.split.SplitOp.copy.Goals as goal

pub returns-in-Down-clause-turned : goal.returns-in-Down-clause-turned
returns-in-Down-clause-turned g c =
    copies_down c.args.self.now (g.W.World.view c.args.world.now) (g.W.World.view c.copy_in.new.self) c.args.page c.requires.ready c.requires.state c.in-Down.page c.in-Down.ensures.told

pub returns-in-Right-clause-turned : goal.returns-in-Right-clause-turned
returns-in-Right-clause-turned g c =
    copies_right c.args.self.now (g.W.World.view c.args.world.now) (g.W.World.view c.copy_in.new.self) c.args.page c.requires.ready c.requires.state c.in-Right.page c.in-Right.ensures.told

pub returns-in-PageFull-clause-turned : goal.returns-in-PageFull-clause-turned
returns-in-PageFull-clause-turned g c =
    copies_full c.args.self.now (g.W.World.view c.args.world.now) (g.W.World.view c.copy_in.new.self) c.args.page c.requires.ready c.requires.state c.in-PageFull.ensures.told (search rules)

pub returns-in-PageFull-2-clause-turned : goal.returns-in-PageFull-2-clause-turned
returns-in-PageFull-2-clause-turned g c =
    copies_wanting c.args.self.now (g.W.World.view c.args.world.now) (g.W.World.view c.copy_in.new.self) c.args.page c.requires.ready c.requires.state c.in-PageFull-2.ensures.told (search rules)

pub returns-in-Done-clause-turned : goal.returns-in-Done-clause-turned
returns-in-Done-clause-turned g c =
    on_answer c.args.self.now c.go_on.new.self _ (g.W.World.view c.args.world.now) (g.W.World.view c.copy_in.new.self) c.go_on.result c.go_on.ensures.answer c.go_on.ensures.on
    (copies_done c.args.self.now (g.W.World.view c.args.world.now) (g.W.World.view c.copy_in.new.self) c.args.page c.requires.ready c.requires.state c.in-Done.ensures.told)
