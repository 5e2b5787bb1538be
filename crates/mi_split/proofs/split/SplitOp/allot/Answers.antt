use Rattle.mi_split.proofs.SplitLemmas.{allots, refused_pages, refused_memory, on_answer}
use Rattle.mi_split.proofs.split.SplitOp.allot.Goals as goal

pub returns-in-Ok-clause-turned : goal.returns-in-Ok-clause-turned
returns-in-Ok-clause-turned g c =
    allots c.args.self.now (g.W.World.view c.args.world.now) (g.W.World.view c.allot.new.self) c.args.page c.requires.ready c.requires.state _ c.in-Ok.ensures.told

pub returns-in-Err-PagesFull-clause-turned : goal.returns-in-Err-PagesFull-clause-turned
returns-in-Err-PagesFull-clause-turned g c =
    on_answer c.args.self.now c.go_back.new.self _ (g.W.World.view c.args.world.now) (g.W.World.view c.allot.new.self) c.go_back.result c.go_back.ensures.answer c.go_back.ensures.back
    (refused_pages c.args.self.now (g.W.World.view c.args.world.now) (g.W.World.view c.allot.new.self) c.args.page c.requires.ready c.requires.state c.in-Err-PagesFull.limit (rw c.in-Err-PagesFull.field-0-is at c.in-Err-PagesFull.ensures.told))

pub returns-in-Err-Memory-clause-turned : goal.returns-in-Err-Memory-clause-turned
returns-in-Err-Memory-clause-turned g c =
    on_answer c.args.self.now c.go_back-in-Err-Memory.new.self _ (g.W.World.view c.args.world.now) (g.W.World.view c.allot.new.self) c.go_back-in-Err-Memory.result c.go_back-in-Err-Memory.ensures.answer c.go_back-in-Err-Memory.ensures.back
    (refused_memory c.args.self.now (g.W.World.view c.args.world.now) (g.W.World.view c.allot.new.self) c.args.page c.requires.ready c.requires.state (rw c.in-Err-Memory.field-0-is at c.in-Err-Memory.ensures.told))
