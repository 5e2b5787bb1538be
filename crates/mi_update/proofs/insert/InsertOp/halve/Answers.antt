use Rattle.mi_update.proofs.InsertLemmas.{halves, halves_not, so_turned}
use Rattle.mi_update.proofs.insert.InsertOp.halve.Goals as goal

pub returns-in-Parted-clause-turned : goal.returns-in-Parted-clause-turned
returns-in-Parted-clause-turned g c =
    so_turned c.args.self.now c.go_to.new.self _ (g.W.World.view c.args.world.now) (g.W.World.view c.split_page.new.self) c.go_to.result _ c.go_to.ensures.state c.go_to.ensures.turn
    (halves c.args.self.now (g.W.World.view c.args.world.now) (g.W.World.view c.split_page.new.self) c.args.page c.requires.ready c.requires.state c.in-Parted.key c.in-Parted.child c.new.result c.new.ensures c.in-Parted.ensures.told)

pub returns-in-Roomy-clause-turned : goal.returns-in-Roomy-clause-turned
returns-in-Roomy-clause-turned g c =
    so_turned c.args.self.now c.go_to-in-Roomy.new.self _ (g.W.World.view c.args.world.now) (g.W.World.view c.split_page.new.self) c.go_to-in-Roomy.result _ c.go_to-in-Roomy.ensures.state c.go_to-in-Roomy.ensures.turn
    (halves_not c.args.self.now (g.W.World.view c.args.world.now) (g.W.World.view c.split_page.new.self) c.args.page c.requires.ready c.requires.state c.in-Roomy.ensures.told)
