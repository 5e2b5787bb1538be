use Rattle.std.proofs.Common.{◌≡◌}
use Rattle.mi_hall.specs.Absorbed.{most}
use Rattle.mi_hall.proofs.absorbed.count_up.Given as goal

abbrev pub invariant-loop-one : goal.invariant-loop-one
invariant-loop-one l = most l.found l.one-iterator ≡ most l.fn.count l.fn.gone
