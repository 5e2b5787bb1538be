use Rattle.std.proofs.Common.{◌∙◌, sym, ap, arith}
use Rattle.mi_tree.specs.declared.outcomes.Leaf.{Leaf}
use Rattle.mi_tree.specs.Counting.{with_added}
use Rattle.mi_tree.proofs.HullLemmas.{among_more}
use Rattle.mi_tree.proofs.CatalogLemmas.{added_in, added_out}
use Rattle.mi_tree.proofs.counts.leaf_among.Goals as goal
use Rattle.mi_tree.proofs.counts.leaf_among.Goals.{then-begins, else-begins}

pub loop-object-preserved : goal.loop-object-preserved
loop-object-preserved c =
    let o = c.object-item.result in
    let leaf = c.loop-object.leaf in
    let more = ap (with_added o.perm o.distance) c.loop-object.invariant.0 ∙ sym (among_more c.args.objects.now c.loop-object.object-index o c.args.prefix c.loop-object-test.true c.object-item.is) in
    let count = c.loop-object.invariant.1 in
    elim c.if-begins.branch [
      | then-begins w ↦
          let is = w.leaf-is ∙ w.put.ensures in
          (is ∙ sym (added_in o.perm o.distance leaf (sym c.begins.ensures ∙ w.if-begins.true)) ∙ more, (let n = ap (λ (l : Leaf). l.count) is in omega (arith, n, count)))
      | else-begins w ↦
          (w.leaf-is ∙ sym (added_out o.perm o.distance leaf (sym c.begins.ensures ∙ w.if-begins.false)) ∙ more, (let n = ap (λ (l : Leaf). l.count) w.leaf-is in omega (arith, n, count)))
    ]
