use Rattle.std.proofs.Common.{◌≡◌, take}
use Rattle.std.specs.List.{filter_map}
use Rattle.mi_call.specs.Choosing.{inserted_vector}
use Rattle.mi_call.proofs.choosing.objects_of.Given as goal

abbrev pub invariant-loop-op : goal.invariant-loop-op
invariant-loop-op l = l.objects ≡ filter_map inserted_vector (take l.op-index l.op-items)
