use Rattle.std.proofs.Common.{◌≡◌, ◌<◌, length}
use Rattle.std.specs.List.{AllByRecursion}
use Rattle.mi_hall.specs.Absorbed.{placed}
use Rattle.mi_hall.proofs.absorbed.place.Given as goal

abbrev pub invariant-loop-one : goal.invariant-loop-one
invariant-loop-one l = record {
  same : placed l.gone l.rows.items ≡ placed l.fn.gone l.fn.rows.items;
  long : length l.rows.items ≡ length l.fn.rows.items;
  within : AllByRecursion (λ g. g.actor < length l.fn.rows.items) l.gone;
}

abbrev pub decreases-loop-one : goal.decreases-loop-one
decreases-loop-one l = length l.gone
