use Rattle.std.proofs.Common.{arith}
use Rattle.mi_blink.proofs.WalkLemmas.{walks_down, walks_right, walks_next, walks_end, offers_none, offers_page, offers_last}
use Rattle.mi_blink.proofs.walk.Walk.step.Goals as goal

pub returns-in-Down-clause-walked : goal.returns-in-Down-clause-walked
returns-in-Down-clause-walked g c = rw (c.go_on.ensures.stands, c.go_on.ensures.turn) (walks_down g.S.Sieve.offered c.args.sieve.now c.visit.new.sieve c.args.self.now (g.W.World.view c.args.world.now) (g.W.World.view c.visit.new.self) c.requires.ready c.in-Down.page c.in-Down.ensures.told)

pub returns-in-Down-clause-offered : goal.returns-in-Down-clause-offered
returns-in-Down-clause-offered g c =
    let k = c.in-Down.ensures.told in
    rw (c.go_on.ensures.stands, c.go_on.ensures.turn) (offers_none g.S.Sieve.offered c.args.sieve.now c.visit.new.sieve c.args.self.now (g.W.World.view c.args.world.now) (g.W.World.view c.visit.new.self) c.requires.ready c.in-Down.page
    (c.requires.ready.low (omega (arith, k.answer.above))) k.answer.low_is c.in-Down.ensures.offered)

pub returns-in-Right-clause-walked : goal.returns-in-Right-clause-walked
returns-in-Right-clause-walked g c = rw (c.go_on-in-Right.ensures.stands, c.go_on-in-Right.ensures.turn) (walks_right g.S.Sieve.offered c.args.sieve.now c.visit.new.sieve c.args.self.now (g.W.World.view c.args.world.now) (g.W.World.view c.visit.new.self) c.requires.ready c.in-Right.page c.in-Right.ensures.told)

pub returns-in-Right-clause-offered : goal.returns-in-Right-clause-offered
returns-in-Right-clause-offered g c =
    let k = c.in-Right.ensures.told in
    rw (c.go_on-in-Right.ensures.stands, c.go_on-in-Right.ensures.turn) (offers_none g.S.Sieve.offered c.args.sieve.now c.visit.new.sieve c.args.self.now (g.W.World.view c.args.world.now) (g.W.World.view c.visit.new.self) c.requires.ready c.in-Right.page
    (omega (arith, k.answer.after, k.answer.low_is)) k.answer.low_is c.in-Right.ensures.offered)

pub returns-in-Read-Some-clause-walked : goal.returns-in-Read-Some-clause-walked
returns-in-Read-Some-clause-walked g c =
    let h = rw c.in-Read-Some.next-is at c.in-Read-Some.ensures in
    rw (c.go_on-in-Read-Some.ensures.stands, c.go_on-in-Read-Some.ensures.turn) (walks_next g.S.Sieve.offered c.args.sieve.now c.visit.new.sieve c.args.self.now (g.W.World.view c.args.world.now) (g.W.World.view c.visit.new.self) c.requires.ready c.in-Read-Some.page h.told)

pub returns-in-Read-Some-clause-offered : goal.returns-in-Read-Some-clause-offered
returns-in-Read-Some-clause-offered g c =
    let h = rw c.in-Read-Some.next-is at c.in-Read-Some.ensures in
    rw (c.go_on-in-Read-Some.ensures.stands, c.go_on-in-Read-Some.ensures.turn) (offers_page g.S.Sieve.offered c.args.sieve.now c.visit.new.sieve c.args.self.now (g.W.World.view c.args.world.now) (g.W.World.view c.visit.new.self) c.requires.ready c.in-Read-Some.page
    (omega (arith, h.told.answer.1.3)) h.told.later.settings h.told.same.work.apart.pin h.offered)

pub returns-in-Read-None-clause-walked : goal.returns-in-Read-None-clause-walked
returns-in-Read-None-clause-walked g c =
    let h = rw c.in-Read-None.next-is at c.in-Read-None.ensures in
    walks_end g.S.Sieve.offered c.args.sieve.now c.visit.new.sieve c.args.self.now (g.W.World.view c.args.world.now) (g.W.World.view c.visit.new.self) c.requires.ready h.told

pub returns-in-Read-None-clause-offered : goal.returns-in-Read-None-clause-offered
returns-in-Read-None-clause-offered g c =
    let h = rw c.in-Read-None.next-is at c.in-Read-None.ensures in
    offers_last g.S.Sieve.offered c.args.sieve.now c.visit.new.sieve c.args.self.now (g.W.World.view c.args.world.now) (g.W.World.view c.visit.new.self) c.requires.ready
    h.told.later.settings h.told.same.work.apart.pin h.offered
