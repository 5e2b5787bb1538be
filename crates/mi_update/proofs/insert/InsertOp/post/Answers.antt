use Rattle.std.proofs.Common.{◌≡◌, sym, Some, subst}
use Rattle.mi_blink.specs.declared.turns.Turn.TheVariants.{More}
use Rattle.mi_update.specs.Inserting.{Turned}
use Rattle.mi_update.proofs.InsertLemmas.{posts_on, posted, posted_left, posted_memory, so_turned}
use Rattle.mi_update.proofs.insert.InsertOp.post.Goals as goal

pub returns-in-More-clause-turned : goal.returns-in-More-clause-turned
returns-in-More-clause-turned g c =
    let o = c.args.self.now in
    let u : o.post ≡ Some c.in-Some.post = cc in
    subst (λ s. Turned o (g.W.World.view c.args.world.now) More (record o { state = s; post = Some c.step.new.self }) (g.W.World.view c.step.new.world)) (sym c.requires.state)
    (posts_on o (g.W.World.view c.args.world.now) (g.W.World.view c.step.new.world) c.args.page c.in-Some.post c.step.new.self c.requires.ready c.requires.state u c.in-More.ensures.turned)

pub returns-in-Done-clause-turned : goal.returns-in-Done-clause-turned
returns-in-Done-clause-turned g c =
    let o = c.args.self.now in
    let u : o.post ≡ Some c.in-Some.post = cc in
    so_turned o c.go_back.new.self _ (g.W.World.view c.args.world.now) (g.W.World.view c.step.new.world) c.go_back.result _ c.go_back.ensures.state c.go_back.ensures.turn
    (posted o (g.W.World.view c.args.world.now) (g.W.World.view c.step.new.world) c.args.page c.in-Some.post c.step.new.self c.requires.ready c.requires.state u _ c.in-Done.ensures.turned)

pub returns-in-Left-clause-turned : goal.returns-in-Left-clause-turned
returns-in-Left-clause-turned g c =
    let o = c.args.self.now in
    let u : o.post ≡ Some c.in-Some.post = cc in
    so_turned o c.go_back-in-Left.new.self _ (g.W.World.view c.args.world.now) (g.W.World.view c.step.new.world) c.go_back-in-Left.result _ c.go_back-in-Left.ensures.state c.go_back-in-Left.ensures.turn
    (posted_left o (g.W.World.view c.args.world.now) (g.W.World.view c.step.new.world) c.args.page c.in-Some.post c.step.new.self c.requires.ready c.requires.state u c.in-Left.limit _ c.in-Left.ensures.turned)

pub returns-in-Memory-clause-turned : goal.returns-in-Memory-clause-turned
returns-in-Memory-clause-turned g c =
    let o = c.args.self.now in
    let u : o.post ≡ Some c.in-Some.post = cc in
    so_turned o c.go_back-in-Memory.new.self _ (g.W.World.view c.args.world.now) (g.W.World.view c.step.new.world) c.go_back-in-Memory.result _ c.go_back-in-Memory.ensures.state c.go_back-in-Memory.ensures.turn
    (posted_memory o (g.W.World.view c.args.world.now) (g.W.World.view c.step.new.world) c.args.page c.in-Some.post c.step.new.self c.requires.ready c.requires.state u _ c.in-Memory.ensures.turned)
