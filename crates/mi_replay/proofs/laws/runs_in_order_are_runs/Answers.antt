use Rattle.std.proofs.Common.{[], ◌+◌, ◌-◌, ◌++◌, length}
use Rattle.mi_core.specs.Events.{opened}
use Rattle.mi_replay.specs.InOrder.{rounds}
use Rattle.mi_replay.proofs.RunLemmas.{blocks_chained}
use Rattle.mi_settle.proofs.TurnLemmas.{chained_on}
use Rattle.mi_replay.proofs.laws.runs_in_order_are_runs.Goals as goal

pub returns : goal.returns
returns g = λ c scripts schedule o h.
    let s = opened c (length scripts + 1) (c.pages - 1) in
    chained_on s h.finished h.last h.turns h.settling (blocks_chained scripts [] s (schedule ++ rounds (length scripts) h.many) h.turns h.finished h.blocks) h.settles
