use Rattle.std.proofs.Common.{inl, inr, arith}
use Rattle.mi_metric.proofs.SpentLemmas.{count_spent_left, count_spent_right}
use Rattle.mi_metric.proofs.hamming.count_of_differences.Goals as goal

pub returns : goal.returns
returns c =
    let a = c.loop-x.x-iterator.a.rest.now in
    let b = c.loop-x.x-iterator.b.rest.now in
    elim c.in-None.ensures.steps [
      | inl spent ↦ omega (arith, count_spent_left a b spent.1.0)
      | inr spent ↦ omega (arith, count_spent_right a b spent.1.0)
    ]
