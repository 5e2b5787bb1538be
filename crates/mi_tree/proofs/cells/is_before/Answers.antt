use Rattle.std.proofs.Common.{◌∙◌, sym, ap, arith, length, ◌≤◌, drop}
use Rattle.mi_tree.proofs.SearchLemmas.{before_end}
use Rattle.mi_tree.proofs.cells.is_before.Goals as goal

pub returns : goal.returns
returns c =
    let all : length c.args.prefix.now ≤ c.loop-place.place = omega (arith, c.loop-place-test.false, ap length c.loop-place.invariant.1) in
    sym (before_end (drop c.loop-place.place c.args.pivots.now) c.args.prefix.now c.loop-place.place all) ∙ c.loop-place.invariant.0
