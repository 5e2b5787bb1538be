use Rattle.mi_update.proofs.InsertLemmas.{reserves, reserves_full, reserves_memory, so_turned}
use Rattle.mi_update.proofs.insert.InsertOp.reserve.Goals as goal

pub returns-in-Ok-clause-turned : goal.returns-in-Ok-clause-turned
returns-in-Ok-clause-turned g c =
    so_turned c.args.self.now c.go_to.new.self _ (g.W.World.view c.args.world.now) (g.W.World.view c.reserve.new.self) c.go_to.result _ c.go_to.ensures.state c.go_to.ensures.turn
    (reserves c.args.self.now (g.W.World.view c.args.world.now) (g.W.World.view c.reserve.new.self) c.requires.ready c.requires.state c.in-Ok.look c.in-Ok.ensures.told)

pub returns-in-Err-Full-clause-turned : goal.returns-in-Err-Full-clause-turned
returns-in-Err-Full-clause-turned g c =
    so_turned c.args.self.now c.give_up_shard.new.self _ (g.W.World.view c.args.world.now) (g.W.World.view c.reserve.new.self) c.give_up_shard.result _ c.give_up_shard.ensures.state c.give_up_shard.ensures.turn
    (reserves_full c.args.self.now (g.W.World.view c.args.world.now) (g.W.World.view c.reserve.new.self) c.requires.ready c.requires.state c.in-Err-Full.limit (rw c.in-Err-Full.field-0-is at c.in-Err-Full.ensures.told))

pub returns-in-Err-Memory-clause-turned : goal.returns-in-Err-Memory-clause-turned
returns-in-Err-Memory-clause-turned g c =
    so_turned c.args.self.now c.give_up_shard-in-Err-Memory.new.self _ (g.W.World.view c.args.world.now) (g.W.World.view c.reserve.new.self) c.give_up_shard-in-Err-Memory.result _ c.give_up_shard-in-Err-Memory.ensures.state c.give_up_shard-in-Err-Memory.ensures.turn
    (reserves_memory c.args.self.now (g.W.World.view c.args.world.now) (g.W.World.view c.reserve.new.self) c.requires.ready c.requires.state (rw c.in-Err-Memory.field-0-is at c.in-Err-Memory.ensures.told))
