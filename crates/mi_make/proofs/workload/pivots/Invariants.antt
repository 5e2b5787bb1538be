use Rattle.std.proofs.Common.{◌≡◌, ◌-◌, ◌++◌}
use Rattle.mi_make.specs.Draws.{after_vector, drawn, left_by, vector}
use Rattle.mi_make.proofs.workload.pivots.Given as goal

-- what was drawn, and what is left to draw
abbrev pub invariant-loop : goal.invariant-loop
invariant-loop l = record {
  drawn : drawn vector after_vector l.fn.count l.fn.draws.state ≡ l.list ++ drawn vector after_vector (l.fn.count - l.counter) l.draws.state;
  state : left_by after_vector l.fn.count l.fn.draws.state ≡ left_by after_vector (l.fn.count - l.counter) l.draws.state;
}
