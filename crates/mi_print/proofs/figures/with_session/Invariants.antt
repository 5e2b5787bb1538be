use Rattle.std.proofs.Common.{◌≡◌, ◌+◌, ◌-◌, ◌^◌, min, take}
use Rattle.std.specs.List.{sum_by}
use Rattle.mi_print.specs.Summary.{added_by}
use Rattle.mi_print.proofs.figures.with_session.Given as goal

-- the sum so far
abbrev pub invariant-loop-reply : goal.invariant-loop-reply
invariant-loop-reply l = l.sum ≡ min (l.fn.before + sum_by (added_by l.fn.figure) (take l.reply-index l.reply-items)) (2 ^ 64 - 1)
