use Rattle.std.specs.List.{AllByRecursion}
use Rattle.mi_base.specs.Scripts.{IsOpOver}
use Rattle.test_threads.proofs.runs.three.Given as goal

-- the operations so far fit
abbrev pub invariant-loop-number : goal.invariant-loop-number
invariant-loop-number g l = AllByRecursion (IsOpOver (g.M.Metric.space l.fn.metric)) l.script
