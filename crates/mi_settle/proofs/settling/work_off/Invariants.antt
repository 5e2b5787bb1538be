use Rattle.std.proofs.Common.{◌≡◌, false}
use Rattle.mi_settle.specs.Settling.{Works, resting}
use Rattle.mi_settle.proofs.SettlingLemmas.{work_left}
use Rattle.mi_settle.proofs.settling.work_off.Given as goal

-- some operations have ended
abbrev pub invariant-loop : goal.invariant-loop
invariant-loop l = record { works : Works l.fn.actor l.fn.solo.state false l.solo.state; seat : l.splitter ≡ resting false }

abbrev pub decreases-loop : goal.decreases-loop
decreases-loop l = work_left l.solo.state.board
