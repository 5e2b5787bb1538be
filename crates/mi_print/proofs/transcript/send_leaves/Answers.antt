use Rattle.mi_print.specs.Render.{leaf_line}
use Rattle.mi_print.proofs.LoopLemmas.{sends_each_ended}
use Rattle.mi_print.proofs.transcript.send_leaves.Goals as goal

pub returns-in_err-send_leaf : goal.returns-in_err-send_leaf
returns-in_err-send_leaf g c =
    let whole = sends_each_ended leaf_line c.as_slice-leaf-items.result.now c.loop-leaf.leaf-index c.leaf-item.result _ c.from_residual.result
    c.loop-leaf-test.true c.leaf-item.is c.from_residual.ensures.1 c.loop-leaf.invariant.0 c.in_err-send_leaf.ensures in
    rw c.as_slice-leaf-items.ensures at whole
