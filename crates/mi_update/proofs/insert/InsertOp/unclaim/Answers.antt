use Rattle.mi_update.proofs.InsertLemmas.{so_turned, unclaims}
use Rattle.mi_update.proofs.insert.InsertOp.unclaim.Goals as goal

pub returns-clause-turned : goal.returns-clause-turned
returns-clause-turned g c =
    so_turned c.args.self.now c.give_up_shard.new.self _ (g.W.World.view c.args.world.now) (g.W.World.view c.release_leaf.new.self) c.give_up_shard.result _ c.give_up_shard.ensures.state c.give_up_shard.ensures.turn
    (unclaims c.args.self.now (g.W.World.view c.args.world.now) (g.W.World.view c.release_leaf.new.self) c.args.ending c.requires.ready c.requires.state c.release_leaf.ensures.told)
