use Rattle.std.proofs.Common.{◌≡◌, take}
use Rattle.mi_board.specs.Marks.{split_marks}
use Rattle.mi_tree.specs.Catalog.{prefixes_of}
use Rattle.mi_board.proofs.marks.marks_after.Given as goal

abbrev pub invariant-loop-place : goal.invariant-loop-place
invariant-loop-place l = l.after.items ≡ split_marks l.pivots l.prefix (take l.place (prefixes_of l.catalog.leaves)) (take l.place l.marks)
