use Rattle.std.proofs.Common.{◌≡◌, ◌++◌, map, false}
use Rattle.mi_tree.specs.Cells.{children}
use Rattle.mi_board.proofs.marks.push_children.Given as goal

abbrev pub invariant-loop-pivot : goal.invariant-loop-pivot
invariant-loop-pivot l = l.marks.items ≡ l.fn.marks.items ++ map (λ _. false) (children l.pivot-counter l.prefix)
