use Rattle.std.proofs.Common.{◌≡◌, ◌∙◌, sym, ap, ◌++◌, [], ◌∷◌, List, ℕ, true, false, Vec, Global, map, subst, nat_eq, refl}
use Rattle.std.proofs.lemmas.Bool.{eq-eqb, eqb-true, false_from_ne_true}
use Rattle.mi_tree.specs.declared.outcomes.Leaf.{Leaf}
use Rattle.mi_tree.specs.Cells.{children, first_leaves}
use Rattle.mi_tree.specs.Counting.{leaf_among}
use Rattle.mi_tree.specs.Catalog.{prefixes_of, IsCatalog}
use Rattle.mi_tree.proofs.CatalogLemmas.{first_is, prefixes_among}
use Rattle.mi_tree.proofs.catalogs.Catalog.first.Goals as goal
use Rattle.mi_tree.proofs.catalogs.Catalog.first.Goals.{then-pivots-eq0+in_ok-push, else-pivots-eq0+in_ok-push_children}

pub invariant_of-result : goal.invariant_of-result
invariant_of-result c =
    let n = c.args.pivots in
    let is : c.if-pivots-eq0.leaves.items ≡ map (leaf_among []) (first_leaves n) =
    elim c.if-pivots-eq0.branch [
      | then-pivots-eq0+in_ok-push w ↦
          let zero : nat_eq n 0 ≡ true = eq-eqb n 0 w.if-pivots-eq0.true in
          ap (λ (v : Vec Leaf Global). v.items) w.leaves-is ∙ w.in_ok-push.ensures.items
          ∙ ap (λ (x : Leaf). c.new-leaves.result.items ++ x ∷ []) (w.leaf_among.ensures ∙ ap (leaf_among []) c.empty-root.ensures)
          ∙ ap (λ (xs : List Leaf). xs ++ leaf_among [] [] ∷ []) c.new-leaves.ensures.items
          ∙ sym (rw zero refl)
      | else-pivots-eq0+in_ok-push_children w ↦
          let more : nat_eq n 0 ≡ false = false_from_ne_true (nat_eq n 0) (λ t. w.if-pivots-eq0.false (eqb-true n 0 t)) in
          ap (λ (v : Vec Leaf Global). v.items) w.leaves-is ∙ w.in_ok-push_children.ensures
          ∙ ap (λ (xs : List Leaf). xs ++ map (leaf_among []) (children n c.empty-root.result)) c.new-leaves.ensures.items
          ∙ ap (λ (q : List ℕ). map (leaf_among []) (children n q)) c.empty-root.ensures
          ∙ sym (rw more refl)
    ] in
    subst (IsCatalog n c.args.levels) (sym (ap prefixes_of is ∙ prefixes_among [] (first_leaves n))) (first_is n c.args.levels c.requires.few c.requires.depth)
