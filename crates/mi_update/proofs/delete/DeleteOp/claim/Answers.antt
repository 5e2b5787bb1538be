use Rattle.std.proofs.Common.{sym, ap, ◌∙◌}
use Rattle.mi_update.specs.Deleting.{perm_of}
use Rattle.mi_update.proofs.DeleteLemmas.{claims, so_turned}
use Rattle.mi_update.proofs.delete.DeleteOp.claim.Goals as goal

pub returns-in-Taken-clause-turned : goal.returns-in-Taken-clause-turned
returns-in-Taken-clause-turned g c =
    so_turned c.args.self.now c.go_to.new.self _ (g.W.World.view c.args.world.now) (g.W.World.view c.claim_leaf.new.self) c.go_to.result _ c.go_to.ensures.state c.go_to.ensures.turn
    (claims c.args.self.now (g.W.World.view c.args.world.now) (g.W.World.view c.claim_leaf.new.self) c.permutation.result c.requires.ready c.requires.state (c.permutation.ensures.value ∙ sym (ap perm_of c.in-Some.is)) _ c.in-Taken.ensures.told)
