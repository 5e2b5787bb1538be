use Rattle.std.proofs.Common.{◌++◌, ◌∷◌, [], List, sym, ap, ◌∙◌}
use Rattle.std.specs.Prelude.{take}
use Rattle.std.proofs.lemmas.List.{take_more}
use Rattle.std.proofs.lemmas.Option.{get_or_from_slice_get, slice_get_within}
use Rattle.mi_tree.specs.declared.outcomes.Leaf.{Leaf}
use Rattle.mi_settle.proofs.outcomes.copy_cells.Goals as goal

pub loop-place-preserved : goal.loop-place-preserved
loop-place-preserved c =
    let xs : List Leaf = c.args.catalog.now.leaves in
    let n = c.loop-place.place in
    let leaf : Leaf = c.leaf.result.now in
    c.in_ok-push.ensures.ok ∙ ap (λ (ys : List Leaf). ys ++ c.copy.result ∷ []) c.loop-place.invariant
    ∙ ap (λ (y : Leaf). take n xs ++ y ∷ []) (c.copy.ensures ∙ sym (get_or_from_slice_get xs n leaf leaf c.leaf.ensures))
    ∙ sym (take_more xs n leaf (slice_get_within xs n leaf c.leaf.ensures))
