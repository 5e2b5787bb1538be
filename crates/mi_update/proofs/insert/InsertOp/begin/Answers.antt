use Rattle.mi_update.proofs.InsertLemmas.{begins_absent, begins_live, so_turned}
use Rattle.mi_update.proofs.insert.InsertOp.begin.Goals as goal

pub returns-in-Taken-Some-clause-turned : goal.returns-in-Taken-Some-clause-turned
returns-in-Taken-Some-clause-turned g c =
    so_turned c.args.self.now c.go_to.new.self _ (g.W.World.view c.args.world.now) (g.W.World.view c.claim_shard.new.self) c.go_to.result _ c.go_to.ensures.state c.go_to.ensures.turn
    (begins_live c.args.self.now (g.W.World.view c.args.world.now) (g.W.World.view c.claim_shard.new.self) c.requires.ready c.requires.state _ (rw c.in-Taken-Some.kept-is at c.in-Taken-Some.ensures.told))

pub returns-in-Taken-None-clause-turned : goal.returns-in-Taken-None-clause-turned
returns-in-Taken-None-clause-turned g c =
    so_turned c.args.self.now c.go_to-in-Taken-None.new.self _ (g.W.World.view c.args.world.now) (g.W.World.view c.claim_shard.new.self) c.go_to-in-Taken-None.result _ c.go_to-in-Taken-None.ensures.state c.go_to-in-Taken-None.ensures.turn
    (begins_absent c.args.self.now (g.W.World.view c.args.world.now) (g.W.World.view c.claim_shard.new.self) c.requires.ready c.requires.state (rw c.in-Taken-None.kept-is at c.in-Taken-None.ensures.told))
