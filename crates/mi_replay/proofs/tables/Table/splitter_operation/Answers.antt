use Rattle.mi_replay.proofs.TableBlocks.{splitter_operation}
use Rattle.mi_replay.proofs.TableRounds.{rested}
use Rattle.mi_replay.proofs.SpendingTables.{splitter_spends}
use Rattle.mi_replay.proofs.tables.Table.splitter_operation.Goals as goal

pub returns-clause-made : goal.returns-clause-made
returns-clause-made c =
    let t = c.args.self.now in
    splitter_operation c.args.scripts.now t.solo.state t.seats.items t.splitter c.operation.new.self c.operation.new.solo.state c.requires.waits c.operation.ensures

pub returns-clause-rested : goal.returns-clause-rested
returns-clause-rested c =
    let t = c.args.self.now in
    rested c.args.scripts.now t.solo.state t.seats.items t.splitter c.operation.new.self c.operation.new.solo.state c.requires.waits c.operation.ensures

pub returns-clause-spends : goal.returns-clause-spends
returns-clause-spends c =
    let t = c.args.self.now in
    let made = c.operation.ensures in
    λ n first. splitter_spends c.args.scripts.now t.solo.state t.seats.items t.splitter c.operation.new.solo.state made.made c.requires.waits made.is.chained made.is.calls made.is.by first n
