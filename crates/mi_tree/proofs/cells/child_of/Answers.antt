use Rattle.std.proofs.Common.{◌≡◌, ◌∙◌, sym, ap, ◌++◌, ◌∷◌, [], IsTrue, subst, List, ℕ}
use Rattle.std.proofs.lemmas.List.{take_all}
use Rattle.mi_base.specs.Prefixes.{is_prefix}
use Rattle.mi_tree.proofs.CatalogLemmas.{prefix_more}
use Rattle.mi_tree.proofs.cells.child_of.Goals as goal

pub prefix_of-requires : goal.prefix_of-requires
prefix_of-requires c =
    let p = c.args.prefix.now in
    let all : c.loop-earlier.pivots.items ≡ p =
    c.loop-earlier.invariant.0 ∙ take_all c.loop-earlier.earlier-index c.as_slice-earlier-items.result.now c.loop-earlier-test.false ∙ c.as_slice-earlier-items.ensures.same in
    let whole : c.as_slice.result.now ≡ p ++ c.args.pivot ∷ [] = c.as_slice.ensures.value ∙ c.push-2.ensures.items ∙ ap (λ (xs : List ℕ). xs ++ c.args.pivot ∷ []) all in
    subst (λ (xs : List ℕ). IsTrue (is_prefix xs)) (sym whole) (prefix_more p c.args.pivot c.as_slice-earlier-items.ensures.prefix c.requires.short c.requires.known c.requires.other)
