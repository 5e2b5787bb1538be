use Rattle.std.proofs.Common.{◌≡◌, ◌-◌, ◌++◌}
use Rattle.mi_make.specs.Workloads.{after_objects, script}
use Rattle.mi_make.proofs.workload.scripts.Given as goal

-- the scripts so far, and what is left to draw
abbrev pub invariant-loop-number : goal.invariant-loop-number
invariant-loop-number l = record {
  even : script 0 l.fn.count 0 l.fn.draws.state ≡ l.even ++ script 0 (l.fn.count - l.number) l.number l.draws.state;
  odd : script 1 l.fn.count 0 l.fn.draws.state ≡ l.odd ++ script 1 (l.fn.count - l.number) l.number l.draws.state;
  state : after_objects l.fn.count 0 l.fn.draws.state ≡ after_objects (l.fn.count - l.number) l.number l.draws.state;
}
