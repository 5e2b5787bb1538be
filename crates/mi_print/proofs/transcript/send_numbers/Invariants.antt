use Rattle.std.proofs.Common.{◌≡◌, ◌+◌, ◌*◌, ◌≤◌, ◌++◌, length, take, map}
use Rattle.std.specs.Fmt.{decimal}
use Rattle.mi_print.specs.Render.{after_commas}
use Rattle.mi_print.proofs.transcript.send_numbers.Given as goal

-- the line has the word and the numbers so far
abbrev pub invariant-loop-number : goal.invariant-loop-number
invariant-loop-number g l = record {
  text : l.line ≡ l.word ++ after_commas (map decimal (take l.number-index l.numbers));
  short : length l.line ≤ 30 + 21 * l.number-index;
}
