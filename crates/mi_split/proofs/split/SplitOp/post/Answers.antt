use Rattle.std.proofs.Common.{◌≡◌, Some, sym, subst}
use Rattle.mi_split.specs.declared.split.SplitTurn.TheVariants as turn
use Rattle.mi_split.specs.Splitting.{Turned}
use Rattle.mi_split.proofs.SplitLemmas.{posts_on, posted, posted_left, posted_memory, on_answer}
use Rattle.mi_split.proofs.split.SplitOp.post.Goals as goal

pub returns-in-More-clause-turned : goal.returns-in-More-clause-turned
returns-in-More-clause-turned g c =
    let o = c.args.self.now in
    let u : o.post ≡ Some c.in-Some.post = cc in
    subst (λ s. Turned o (g.W.World.view c.args.world.now) turn.More (record { leaf = o.leaf; state = s; root = o.root; post = Some c.step.new.self }) (g.W.World.view c.step.new.world)) (sym c.requires.state)
    (posts_on o (g.W.World.view c.args.world.now) (g.W.World.view c.step.new.world) c.args.page c.in-Some.post c.step.new.self c.requires.ready c.requires.state u c.in-More.ensures.turned)

pub returns-in-Done-clause-turned : goal.returns-in-Done-clause-turned
returns-in-Done-clause-turned g c =
    let o = c.args.self.now in
    let u : o.post ≡ Some c.in-Some.post = cc in
    on_answer o c.resume.new.self _ (g.W.World.view c.args.world.now) (g.W.World.view c.step.new.world) c.resume.result c.resume.ensures.answer c.resume.ensures.back
    (posted o (g.W.World.view c.args.world.now) (g.W.World.view c.step.new.world) c.args.page c.in-Some.post c.step.new.self c.requires.ready c.requires.state u _ c.in-Done.ensures.turned)

pub returns-in-Left-clause-turned : goal.returns-in-Left-clause-turned
returns-in-Left-clause-turned g c =
    let o = c.args.self.now in
    let u : o.post ≡ Some c.in-Some.post = cc in
    on_answer o c.resume-in-Left.new.self _ (g.W.World.view c.args.world.now) (g.W.World.view c.step.new.world) c.resume-in-Left.result c.resume-in-Left.ensures.answer c.resume-in-Left.ensures.back
    (posted_left o (g.W.World.view c.args.world.now) (g.W.World.view c.step.new.world) c.args.page c.in-Some.post c.step.new.self c.requires.ready c.requires.state u c.in-Left.limit _ c.in-Left.ensures.turned)

pub returns-in-Memory-clause-turned : goal.returns-in-Memory-clause-turned
returns-in-Memory-clause-turned g c =
    let o = c.args.self.now in
    let u : o.post ≡ Some c.in-Some.post = cc in
    on_answer o c.resume-in-Memory.new.self _ (g.W.World.view c.args.world.now) (g.W.World.view c.step.new.world) c.resume-in-Memory.result c.resume-in-Memory.ensures.answer c.resume-in-Memory.ensures.back
    (posted_memory o (g.W.World.view c.args.world.now) (g.W.World.view c.step.new.world) c.args.page c.in-Some.post c.step.new.self c.requires.ready c.requires.state u _ c.in-Memory.ensures.turned)
