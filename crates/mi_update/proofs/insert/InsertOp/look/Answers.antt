use Rattle.mi_update.proofs.InsertLemmas.{looks, so_turned}
use Rattle.mi_update.proofs.insert.InsertOp.look.Goals as goal

pub returns-clause-turned : goal.returns-clause-turned
returns-clause-turned g c =
    so_turned c.args.self.now c.give_up_shard.new.self _ (g.W.World.view c.args.world.now) (g.W.World.view c.look-look.new.self) c.give_up_shard.result _ c.give_up_shard.ensures.state c.give_up_shard.ensures.turn
    (looks c.args.self.now (g.W.World.view c.args.world.now) (g.W.World.view c.look-look.new.self) c.look-look.result c.requires.ready c.requires.state c.look-look.ensures.told)
