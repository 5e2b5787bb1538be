use Rattle.std.proofs.Common.{◌≡◌, map, take}
use Rattle.mi_solo.specs.Placing.{placed_entry}
use Rattle.mi_solo.proofs.placing.placed_objects.Given as goal

abbrev pub invariant-loop-entry : goal.invariant-loop-entry
invariant-loop-entry l = l.objects.items ≡ map placed_entry (take l.entry-index l.entries)
