use Rattle.std.proofs.Common.{◌≡◌, ◌-◌, ◌++◌, length}
use Rattle.mi_make.specs.Draws.{after_vector, coordinate, drawn, left_by, next_state, vector}
use Rattle.mi_make.proofs.draws.Draws.items.Given as goal

-- what was drawn, and what is left to draw
abbrev pub invariant-loop : goal.invariant-loop
invariant-loop l = record {
  drawn : vector l.fn.self.state ≡ l.items.items ++ drawn coordinate next_state (16 - l.counter) l.self.state;
  state : after_vector l.fn.self.state ≡ left_by next_state (16 - l.counter) l.self.state;
  count : length l.items.items ≡ l.counter;
}
