use Rattle.mi_run.proofs.TendLemmas.{Tending}
use Rattle.mi_run.proofs.tending.tend.Given as goal

-- an operation is under way or none is
abbrev pub invariant-loop : goal.invariant-loop
invariant-loop g l = Tending l.initial.place l.place l.care
