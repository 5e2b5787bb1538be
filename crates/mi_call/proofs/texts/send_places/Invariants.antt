use Rattle.std.proofs.Common.{◌≡◌, ◌+◌, ◌*◌, ◌≤◌, ◌++◌, ◌∷◌, length, take, map}
use Rattle.std.specs.Prelude.{codes}
use Rattle.std.specs.Fmt.{decimal}
use Rattle.mi_print.specs.Render.{after_commas}
use Rattle.mi_call.proofs.texts.send_places.Given as goal

-- the line has the places so far
abbrev pub invariant-loop-place : goal.invariant-loop-place
invariant-loop-place g l = record {
  text : l.line ≡ codes "fault" ++ after_commas (decimal 0 ∷ decimal 0 ∷ l.word ∷ map decimal (take l.place-index l.places));
  short : length l.line ≤ 60 + 21 * l.place-index;
}
