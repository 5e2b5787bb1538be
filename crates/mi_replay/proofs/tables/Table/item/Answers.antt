use Rattle.std.proofs.Common.{sym, subst}
use Rattle.mi_base.specs.declared.records.Actor.{Actor}
use Rattle.mi_replay.specs.Tables.{ItemMade}
use Rattle.mi_replay.proofs.tables.Table.item.Goals as goal

pub returns-in-Session-clause-made : goal.returns-in-Session-clause-made
returns-in-Session-clause-made g c =
    let t = c.args.self.now in
    let u = c.session.new.self in
    subst (λ (x : Actor). ItemMade c.args.scripts.now x c.args.item.take t.solo.state t.seats.items t.splitter u.solo.state u.seats.items u.splitter) (sym c.in-Session.is) c.session.ensures.made

pub returns-in-Splitter-clause-made : goal.returns-in-Splitter-clause-made
returns-in-Splitter-clause-made g c =
    let t = c.args.self.now in
    let u = c.splitter.new.self in
    subst (λ (x : Actor). ItemMade c.args.scripts.now x c.args.item.take t.solo.state t.seats.items t.splitter u.solo.state u.seats.items u.splitter) (sym c.in-Splitter.is) c.splitter.ensures.made

pub returns-in-Splitter-clause-spends : goal.returns-in-Splitter-clause-spends
returns-in-Splitter-clause-spends g c = c.splitter.ensures.spends c.args.steps.now
