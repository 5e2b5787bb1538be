use Rattle.mi_split.proofs.SplitLemmas.{gathers_down, gathers_right, gathers_next, gathers_last, gathers_not, on_answer}
use Rattle.mi_split.proofs.split.SplitOp.gather.Goals as goal

pub returns-in-Ok-Down-clause-turned : goal.returns-in-Ok-Down-clause-turned
returns-in-Ok-Down-clause-turned g c =
    gathers_down c.args.self.now (g.W.World.view c.args.world.now) (g.W.World.view c.gather.new.self) c.args.page c.requires.ready c.requires.state c.in-Ok-Down.page (rw c.in-Ok-Down.field-0-is at c.in-Ok-Down.ensures.told)

pub returns-in-Ok-Right-clause-turned : goal.returns-in-Ok-Right-clause-turned
returns-in-Ok-Right-clause-turned g c =
    gathers_right c.args.self.now (g.W.World.view c.args.world.now) (g.W.World.view c.gather.new.self) c.args.page c.requires.ready c.requires.state c.in-Ok-Right.page (rw c.in-Ok-Right.field-0-is at c.in-Ok-Right.ensures.told)

pub returns-in-Ok-Read-Some-clause-turned : goal.returns-in-Ok-Read-Some-clause-turned
returns-in-Ok-Read-Some-clause-turned g c =
    gathers_next c.args.self.now (g.W.World.view c.args.world.now) (g.W.World.view c.gather.new.self) c.args.page c.requires.ready c.requires.state c.in-Ok-Read-Some.page (rw (c.in-Ok-Read-Some.field-0-is, c.in-Ok-Read-Some.field-0-0-is) at c.in-Ok-Read-Some.ensures.told)

pub returns-in-Ok-Read-None-clause-turned : goal.returns-in-Ok-Read-None-clause-turned
returns-in-Ok-Read-None-clause-turned g c =
    on_answer c.args.self.now c.go_on.new.self _ (g.W.World.view c.args.world.now) (g.W.World.view c.gather.new.self) c.go_on.result c.go_on.ensures.answer c.go_on.ensures.on
    (gathers_last c.args.self.now (g.W.World.view c.args.world.now) (g.W.World.view c.gather.new.self) c.args.page c.requires.ready c.requires.state (rw (c.in-Ok-Read-None.field-0-is, c.in-Ok-Read-None.field-0-0-is) at c.in-Ok-Read-None.ensures.told))

pub returns-in-Err-clause-turned : goal.returns-in-Err-clause-turned
returns-in-Err-clause-turned g c =
    gathers_not c.args.self.now (g.W.World.view c.args.world.now) (g.W.World.view c.gather.new.self) c.args.page c.requires.ready c.requires.state _ c.in-Err.ensures.told
