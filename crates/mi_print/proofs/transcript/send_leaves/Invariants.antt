use Rattle.std.proofs.Common.{◌≡◌, Ok, take}
use Rattle.std.specs.List.{flat_map}
use Rattle.mi_outside.specs.Outside.{Sends}
use Rattle.mi_print.specs.Render.{leaf_line}
use Rattle.mi_print.proofs.transcript.send_leaves.Given as goal

-- the lines of the items so far were sent
abbrev pub invariant-loop-leaf : goal.invariant-loop-leaf
invariant-loop-leaf g l =
    Sends (g.S.Sink.state l.fn.out) (g.S.Sink.state l.out) (flat_map leaf_line (take l.leaf-index l.leaf-items)) (Ok tt)
    × (l.leaf-items ≡ l.initial.leaf-items)
