use Rattle.mi_split.proofs.SweepLemmas.{sweeps_down, sweeps_right, sweeps_next, sweeps_last}
use Rattle.mi_split.proofs.sweep.SweepOp.sweep.Goals as goal

pub returns-in-Down-clause-turned : goal.returns-in-Down-clause-turned
returns-in-Down-clause-turned g c =
    rw (c.go_on.ensures.state, c.go_on.ensures.turn) (sweeps_down c.args.self.now (g.W.World.view c.args.world.now) (g.W.World.view c.sweep.new.self) c.args.page c.requires.ready c.requires.state c.in-Down.page c.in-Down.ensures.told)

pub returns-in-Right-clause-turned : goal.returns-in-Right-clause-turned
returns-in-Right-clause-turned g c =
    rw (c.go_on-in-Right.ensures.state, c.go_on-in-Right.ensures.turn) (sweeps_right c.args.self.now (g.W.World.view c.args.world.now) (g.W.World.view c.sweep.new.self) c.args.page c.requires.ready c.requires.state c.in-Right.page c.in-Right.ensures.told)

pub returns-in-Read-Some-clause-turned : goal.returns-in-Read-Some-clause-turned
returns-in-Read-Some-clause-turned g c =
    rw (c.go_on-in-Read-Some.ensures.state, c.go_on-in-Read-Some.ensures.turn) (sweeps_next c.args.self.now (g.W.World.view c.args.world.now) (g.W.World.view c.sweep.new.self) c.args.page c.requires.ready c.requires.state c.in-Read-Some.page (rw c.in-Read-Some.next-is at c.in-Read-Some.ensures.told))

pub returns-in-Read-None-clause-turned : goal.returns-in-Read-None-clause-turned
returns-in-Read-None-clause-turned g c =
    rw (c.end.ensures.state, c.end.ensures.turn) (sweeps_last c.args.self.now (g.W.World.view c.args.world.now) (g.W.World.view c.sweep.new.self) c.args.page c.requires.ready c.requires.state (rw c.in-Read-None.next-is at c.in-Read-None.ensures.told))
