use Rattle.std.proofs.Common.{◌≡◌, [], replicate}
use Rattle.mi_base.specs.Configuration.{Configuration}
use Rattle.mi_core.specs.Events.{first_actor}
use Rattle.mi_solo.specs.States.{actors_of}
use Rattle.mi_solo.proofs.cores.first_rows.Given as goal

abbrev pub invariant-loop : goal.invariant-loop
invariant-loop l = (settings : Configuration) → actors_of settings [] 0 l.rows.items ≡ replicate l.counter first_actor
