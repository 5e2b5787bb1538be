use Rattle.std.proofs.Common.{length}
use Rattle.mi_run.proofs.GatherLemmas.{Absorbing}
use Rattle.mi_run.proofs.crews.gather.Given as goal

-- these clients are left to be absorbed
abbrev pub invariant-loop-place : goal.invariant-loop-place
invariant-loop-place g l = Absorbing l.scripts l.fn.workers.items l.clients.items l.place l.replies

abbrev pub decreases-loop-place : goal.decreases-loop-place
decreases-loop-place g l = length l.clients.items
