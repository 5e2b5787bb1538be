use Rattle.std.proofs.Common.{◌+◌, ◌*◌}
use Rattle.mi_blink.specs.Descents.{budget}
use Rattle.mi_job.specs.Caring.{left}
use Rattle.mi_solo.specs.States.{view_in}
use Rattle.mi_split.specs.Splitting.{split_most}
use Rattle.mi_settle.proofs.SplitterTurns.{OnWay}
use Rattle.mi_settle.proofs.splitters.SplitterSeat.finish.Given as goal

-- the operation is on its way
abbrev pub invariant-loop-turn : goal.invariant-loop-turn
invariant-loop-turn l = record { way : OnWay l.fn.actor l.fn.solo.state l.fn.self l.solo.state l.self }

-- less is left of the pages, or of the operation
abbrev pub decreases-loop-turn : goal.decreases-loop-turn
decreases-loop-turn l = budget (view_in l.solo.state l.actor) * (split_most + 1) + left l.self.care (view_in l.solo.state l.actor)
