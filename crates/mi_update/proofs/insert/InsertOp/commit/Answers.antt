use Rattle.std.proofs.Common.{rules}
use Rattle.mi_update.proofs.InsertLemmas.{commits_done, commits_down, commits_full, commits_page_full, commits_right, commits_wanting, so_turned, waits}
use Rattle.mi_update.proofs.insert.InsertOp.commit.Goals as goal

pub returns-in-Down-clause-turned : goal.returns-in-Down-clause-turned
returns-in-Down-clause-turned g c =
    so_turned c.args.self.now c.go_to.new.self _ (g.W.World.view c.args.world.now) (g.W.World.view c.commit_insert.new.self) c.go_to.result _ c.go_to.ensures.state c.go_to.ensures.turn
    (commits_down c.args.self.now (g.W.World.view c.args.world.now) (g.W.World.view c.commit_insert.new.self) c.args.page c.requires.ready c.requires.state c.in-Down.page c.in-Down.ensures.told)

pub returns-in-Right-clause-turned : goal.returns-in-Right-clause-turned
returns-in-Right-clause-turned g c =
    so_turned c.args.self.now c.go_to-in-Right.new.self _ (g.W.World.view c.args.world.now) (g.W.World.view c.commit_insert.new.self) c.go_to-in-Right.result _ c.go_to-in-Right.ensures.state c.go_to-in-Right.ensures.turn
    (commits_right c.args.self.now (g.W.World.view c.args.world.now) (g.W.World.view c.commit_insert.new.self) c.args.page c.requires.ready c.requires.state c.in-Right.page c.in-Right.ensures.told)

pub returns-in-Full-clause-turned : goal.returns-in-Full-clause-turned
returns-in-Full-clause-turned g c =
    so_turned c.args.self.now c.give_up_leaf.new.self _ (g.W.World.view c.args.world.now) (g.W.World.view c.commit_insert.new.self) c.give_up_leaf.result _ c.give_up_leaf.ensures.state c.give_up_leaf.ensures.turn
    (commits_full c.args.self.now (g.W.World.view c.args.world.now) (g.W.World.view c.commit_insert.new.self) c.args.page c.requires.ready c.requires.state c.in-Full.limit c.in-Full.ensures.told)

pub returns-in-Crowded-clause-turned : goal.returns-in-Crowded-clause-turned
returns-in-Crowded-clause-turned g c = waits c.args.self.now (g.W.World.view c.args.world.now) (g.W.World.view c.commit_insert.new.self) c.args.page c.requires.ready c.requires.state c.wait.result c.wait.new.self c.wait.ensures.state c.wait.ensures.turn c.in-Crowded.ensures.told

pub returns-in-PageFull-clause-turned : goal.returns-in-PageFull-clause-turned
returns-in-PageFull-clause-turned g c =
    so_turned c.args.self.now c.go_to-in-PageFull.new.self _ (g.W.World.view c.args.world.now) (g.W.World.view c.commit_insert.new.self) c.go_to-in-PageFull.result _ c.go_to-in-PageFull.ensures.state c.go_to-in-PageFull.ensures.turn
    (commits_page_full c.args.self.now (g.W.World.view c.args.world.now) (g.W.World.view c.commit_insert.new.self) c.args.page c.requires.ready c.requires.state c.in-PageFull.ensures.told (search rules))

pub returns-in-PageFull-2-clause-turned : goal.returns-in-PageFull-2-clause-turned
returns-in-PageFull-2-clause-turned g c =
    so_turned c.args.self.now c.go_to-in-PageFull-2.new.self _ (g.W.World.view c.args.world.now) (g.W.World.view c.commit_insert.new.self) c.go_to-in-PageFull-2.result _ c.go_to-in-PageFull-2.ensures.state c.go_to-in-PageFull-2.ensures.turn
    (commits_wanting c.args.self.now (g.W.World.view c.args.world.now) (g.W.World.view c.commit_insert.new.self) c.args.page c.requires.ready c.requires.state c.in-PageFull-2.ensures.told (search rules))

pub returns-in-Done-clause-turned : goal.returns-in-Done-clause-turned
returns-in-Done-clause-turned g c =
    so_turned c.args.self.now c.give_up_leaf-in-Done.new.self _ (g.W.World.view c.args.world.now) (g.W.World.view c.commit_insert.new.self) c.give_up_leaf-in-Done.result _ c.give_up_leaf-in-Done.ensures.state c.give_up_leaf-in-Done.ensures.turn
    (commits_done c.args.self.now (g.W.World.view c.args.world.now) (g.W.World.view c.commit_insert.new.self) c.args.page c.requires.ready c.requires.state c.in-Done.number c.in-Done.ensures.told)
