use Rattle.std.proofs.Common.{refl, ap}
use Rattle.mi_blink.specs.declared.turns.Turn.TheVariants.{Done}
use Rattle.mi_update.proofs.DeleteLemmas.{releases, so_turned}
use Rattle.mi_update.proofs.delete.DeleteOp.release.Goals as goal

pub returns-clause-turned : goal.returns-clause-turned
returns-clause-turned g c =
    so_turned c.args.self.now _ _ (g.W.World.view c.args.world.now) (g.W.World.view c.release_shard.new.self) _ _ refl (ap Done c.reply.ensures)
    (releases c.args.self.now (g.W.World.view c.args.world.now) (g.W.World.view c.release_shard.new.self) c.args.ending c.requires.ready c.requires.state c.release_shard.ensures.told)
