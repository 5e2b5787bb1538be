use Rattle.std.proofs.Common.{◌≡◌, ◌+◌, ◌*◌, ◌≤◌, ◌++◌, ◌∷◌, length, take}
use Rattle.std.specs.List.{flat_map}
use Rattle.std.specs.Fmt.{decimal}
use Rattle.mi_print.proofs.transcript.push_pivots.Given as goal

-- the text has the pivots so far
abbrev pub invariant-loop-pivot : goal.invariant-loop-pivot
invariant-loop-pivot l = record {
  text : l.text.bytes ≡ l.fn.text.bytes ++ flat_map (λ pivot. 46 ∷ decimal pivot) (take l.pivot-index l.pivots);
  short : length l.text.bytes ≤ 3 + 4 * l.pivot-index;
}
