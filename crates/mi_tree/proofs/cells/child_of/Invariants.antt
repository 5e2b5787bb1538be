use Rattle.std.proofs.Common.{◌≡◌, ◌<◌, length, take}
use Rattle.mi_tree.proofs.cells.child_of.Given as goal

abbrev pub invariant-loop-earlier : goal.invariant-loop-earlier
invariant-loop-earlier l = (l.pivots.items ≡ take l.earlier-index l.earlier-items) × (l.earlier-items ≡ l.prefix) × (length l.earlier-items < 6)
