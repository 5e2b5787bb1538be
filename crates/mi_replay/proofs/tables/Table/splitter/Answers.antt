use Rattle.std.proofs.Common.{sym, subst}
use Rattle.mi_base.specs.declared.records.Actor.TheVariants.{Splitter}
use Rattle.mi_base.specs.declared.records.Take.{Take}
use Rattle.mi_replay.specs.Tables.{ItemMade}
use Rattle.mi_replay.proofs.TableBlocks.{splitter_turns}
use Rattle.mi_replay.proofs.SpendingTables.{splitter_spends}
use Rattle.mi_replay.proofs.tables.Table.splitter.Goals as goal

pub returns-in-Turns-clause-made : goal.returns-in-Turns-clause-made
returns-in-Turns-clause-made c =
    let t = c.args.self.now in
    subst (λ (x : Take). ItemMade c.args.scripts.now Splitter x t.solo.state t.seats.items t.splitter c.turns.new.solo.state t.seats.items c.turns.new.self) (sym c.in-Turns.is)
    (splitter_turns c.args.scripts.now t.solo.state t.seats.items t.splitter c.turns.new.self c.turns.new.solo.state c.requires.waits c.in-Turns.count c.turns.ensures)

pub returns-in-Operation-clause-made : goal.returns-in-Operation-clause-made
returns-in-Operation-clause-made c =
    let t = c.args.self.now in
    let u = c.splitter_operation.new.self in
    subst (λ (x : Take). ItemMade c.args.scripts.now Splitter x t.solo.state t.seats.items t.splitter u.solo.state u.seats.items u.splitter) (sym c.in-Operation.is) c.splitter_operation.ensures.made

pub returns-in-Turns-clause-spends : goal.returns-in-Turns-clause-spends
returns-in-Turns-clause-spends c =
    let t = c.args.self.now in
    let made = c.turns.ensures in
    λ n first. splitter_spends c.args.scripts.now t.solo.state t.seats.items t.splitter c.turns.new.solo.state made.made c.requires.waits made.is.chained made.is.calls made.is.by first n
