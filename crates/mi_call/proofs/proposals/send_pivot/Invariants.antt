use Rattle.std.proofs.Common.{◌≡◌, ◌+◌, ◌*◌, ◌≤◌, ◌++◌, length, take, map}
use Rattle.std.specs.Prelude.{codes}
use Rattle.std.specs.Fmt.{signed_decimal}
use Rattle.mi_print.specs.Render.{after_commas}
use Rattle.mi_call.proofs.proposals.send_pivot.Given as goal

-- the line has the coordinates so far
abbrev pub invariant-loop-coordinate : goal.invariant-loop-coordinate
invariant-loop-coordinate g l = record {
  text : l.line ≡ codes "pivot" ++ after_commas (map signed_decimal (take l.coordinate-index l.coordinate-items));
  short : length l.line ≤ 5 + 12 * l.coordinate-index;
  few : length l.coordinate-items ≤ 64;
  same : l.coordinate-items ≡ l.initial.coordinate-items;
}
