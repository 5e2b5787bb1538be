use Rattle.std.proofs.Common.{◌≡◌, ◌-◌, ◌^◌, min, take}
use Rattle.std.specs.List.{sum_by}
use Rattle.mi_print.specs.Summary.{added_by}
use Rattle.mi_print.proofs.figures.total.Given as goal

-- the sum so far
abbrev pub invariant-loop-replies : goal.invariant-loop-replies
invariant-loop-replies l = l.sum ≡ min (sum_by (sum_by (added_by l.fn.figure)) (take l.replies-index l.replies-items)) (2 ^ 64 - 1)
