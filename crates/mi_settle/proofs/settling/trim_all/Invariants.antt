use Rattle.mi_settle.specs.Entries.{pages_from}
use Rattle.mi_settle.proofs.SettlingLemmas.{Trimming}
use Rattle.mi_settle.proofs.settling.trim_all.Given as goal

-- the pages left of the next one are trimmed
abbrev pub invariant-loop-next : goal.invariant-loop-next
invariant-loop-next l = record { trims : Trimming l.fn.actor l.fn.solo.state l.next l.solo.state }

abbrev pub decreases-loop-next : goal.decreases-loop-next
decreases-loop-next l = pages_from l.next l.solo.state
