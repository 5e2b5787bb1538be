use Rattle.mi_split.proofs.SplitLemmas.{undoes_down, undoes_right, undoes_one, on_answer}
use Rattle.mi_split.proofs.split.SplitOp.undo.Goals as goal

pub returns-in-Down-clause-turned : goal.returns-in-Down-clause-turned
returns-in-Down-clause-turned g c =
    undoes_down c.args.self.now (g.W.World.view c.args.world.now) (g.W.World.view c.uncopy.new.self) c.args.page c.args.why c.requires.ready c.requires.state c.in-Down.page c.in-Down.ensures.told

pub returns-in-Right-clause-turned : goal.returns-in-Right-clause-turned
returns-in-Right-clause-turned g c =
    undoes_right c.args.self.now (g.W.World.view c.args.world.now) (g.W.World.view c.uncopy.new.self) c.args.page c.args.why c.requires.ready c.requires.state c.in-Right.page c.in-Right.ensures.told

pub returns-in-Done-clause-turned : goal.returns-in-Done-clause-turned
returns-in-Done-clause-turned g c =
    on_answer c.args.self.now c.go_back.new.self _ (g.W.World.view c.args.world.now) (g.W.World.view c.uncopy.new.self) c.go_back.result c.go_back.ensures.answer c.go_back.ensures.back
    (undoes_one c.args.self.now (g.W.World.view c.args.world.now) (g.W.World.view c.uncopy.new.self) c.args.page c.args.why c.requires.ready c.requires.state c.in-Done.ensures.told)
