use Rattle.mi_replay.specs.InOrder.{operations_of}
use Rattle.mi_replay.specs.Rounds.{Eased}
use Rattle.mi_replay.specs.Spending.{Spends}
use Rattle.mi_replay.specs.Tables.{ItemsMade}
use Rattle.mi_replay.proofs.tables.Table.round.Given as goal

abbrev pub invariant-loop-number : goal.invariant-loop-number
invariant-loop-number g l = record {
  made : ItemsMade l.fn.scripts (operations_of l.number) l.fn.self.solo.state l.fn.self.seats.items l.fn.self.splitter l.self.solo.state l.self.seats.items l.self.splitter;
  eased : Eased l.fn.scripts l.number l.fn.self.solo.state l.fn.self.seats.items l.self.solo.state l.self.seats.items;
  spends : Spends l.fn.scripts l.fn.self l.fn.steps l.self l.steps;
}
