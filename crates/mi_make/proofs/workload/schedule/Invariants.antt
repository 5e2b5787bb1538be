use Rattle.std.proofs.Common.{◌≡◌, ◌-◌, ◌++◌}
use Rattle.mi_make.specs.Draws.{drawn}
use Rattle.mi_make.specs.Workloads.{after_item, item}
use Rattle.mi_make.proofs.workload.schedule.Given as goal

-- what was drawn, and what is left to draw
abbrev pub invariant-loop : goal.invariant-loop
invariant-loop l = record {
  drawn : drawn item after_item l.fn.count l.fn.draws.state ≡ l.list ++ drawn item after_item (l.fn.count - l.counter) l.draws.state;
}
