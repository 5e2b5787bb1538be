use Rattle.mi_update.proofs.InsertLemmas.{allots, allots_memory, allots_none, so_turned}
use Rattle.mi_update.proofs.insert.InsertOp.allot.Goals as goal

pub returns-in-Ok-clause-turned : goal.returns-in-Ok-clause-turned
returns-in-Ok-clause-turned g c =
    so_turned c.args.self.now c.go_to.new.self _ (g.W.World.view c.args.world.now) (g.W.World.view c.allot.new.self) c.go_to.result _ c.go_to.ensures.state c.go_to.ensures.turn
    (allots c.args.self.now (g.W.World.view c.args.world.now) (g.W.World.view c.allot.new.self) c.args.page c.requires.ready c.requires.state _ c.in-Ok.ensures.told)

pub returns-in-Err-PagesFull-clause-turned : goal.returns-in-Err-PagesFull-clause-turned
returns-in-Err-PagesFull-clause-turned g c =
    so_turned c.args.self.now c.give_up_leaf.new.self _ (g.W.World.view c.args.world.now) (g.W.World.view c.allot.new.self) c.give_up_leaf.result _ c.give_up_leaf.ensures.state c.give_up_leaf.ensures.turn
    (allots_none c.args.self.now (g.W.World.view c.args.world.now) (g.W.World.view c.allot.new.self) c.args.page c.requires.ready c.requires.state c.in-Err-PagesFull.limit (rw c.in-Err-PagesFull.field-0-is at c.in-Err-PagesFull.ensures.told))

pub returns-in-Err-Memory-clause-turned : goal.returns-in-Err-Memory-clause-turned
returns-in-Err-Memory-clause-turned g c =
    so_turned c.args.self.now c.give_up_leaf-in-Err-Memory.new.self _ (g.W.World.view c.args.world.now) (g.W.World.view c.allot.new.self) c.give_up_leaf-in-Err-Memory.result _ c.give_up_leaf-in-Err-Memory.ensures.state c.give_up_leaf-in-Err-Memory.ensures.turn
    (allots_memory c.args.self.now (g.W.World.view c.args.world.now) (g.W.World.view c.allot.new.self) c.args.page c.requires.ready c.requires.state (rw c.in-Err-Memory.field-0-is at c.in-Err-Memory.ensures.told))
