use Rattle.std.proofs.Common.{◌≡◌, ◌∙◌, sym, ap, ◌++◌, [], ◌∷◌, Vec, Global}
use Rattle.mi_base.specs.Prefixes.{has}
use Rattle.mi_tree.specs.declared.outcomes.Leaf.{Leaf}
use Rattle.mi_tree.specs.Counting.{leaf_among}
use Rattle.mi_tree.proofs.CatalogLemmas.{child_put, child_not}
use Rattle.mi_tree.proofs.catalogs.push_children.Goals as goal
use Rattle.mi_tree.proofs.catalogs.push_children.Goals.{then-not-contains+in_ok-push, else-not-contains}

pub loop-pivot-preserved : goal.loop-pivot-preserved
loop-pivot-preserved c =
    let start = c.args.leaves.now.items in
    let p = c.args.prefix.now in
    let i = c.loop-pivot.pivot-counter in
    let stands : c.contains.result ≡ has i p = c.contains.ensures.value ∙ ap (has i) c.as_slice.ensures.same in
    elim c.if-not-contains.branch [
      | then-not-contains+in_ok-push w ↦ child_put start c.loop-pivot.leaves.items c.if-not-contains.leaves.items p c.args.objects.now i c.loop-pivot.invariant (sym stands ∙ w.if-not-contains.true)
          (ap (λ (v : Vec Leaf Global). v.items) w.leaves-is ∙ w.in_ok-push.ensures.items ∙ ap (λ (x : Leaf). c.loop-pivot.leaves.items ++ x ∷ []) (w.leaf_among.ensures ∙ ap (leaf_among c.args.objects.now) w.child_of.ensures))
      | else-not-contains w ↦ child_not start c.if-not-contains.leaves.items p c.args.objects.now i (ap (λ (v : Vec Leaf Global). v.items) w.leaves-is ∙ c.loop-pivot.invariant) (sym stands ∙ w.if-not-contains.false)
    ]
