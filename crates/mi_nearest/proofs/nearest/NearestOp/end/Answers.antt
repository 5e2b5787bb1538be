use Rattle.std.proofs.Common.{◌∙◌, sym}
use Rattle.mi_nearest.proofs.SectionLemmas.{ends}
use Rattle.mi_nearest.proofs.nearest.NearestOp.end.Goals as goal

pub returns-clause-turned : goal.returns-clause-turned
returns-clause-turned g c =
    rw c.finish.ensures (ends c.args.self.now (g.W.World.view c.args.world.now) (g.W.World.view c.unpin.new.self) c.args.cells c.args.at c.requires.state c.requires.ready c.requires.metric c.unpin.ensures.told
    c.in-Some.found (sym c.take.ensures.value ∙ c.in-Some.is) c.take.new.self)
