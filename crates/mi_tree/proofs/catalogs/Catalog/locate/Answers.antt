use Rattle.std.proofs.Common.{◌≡◌, ◌∙◌, ◌∷◌, [], ap, sym, subst, get_or}
use Rattle.mi_tree.specs.declared.outcomes.Leaf.{Leaf}
use Rattle.mi_tree.specs.Catalog.{CatalogState}
use Rattle.mi_tree.proofs.CatalogLemmas.{located}
use Rattle.mi_tree.proofs.catalogs.Catalog.locate.Goals as goal

pub returns : goal.returns
returns c =
    let perm = c.args.perm.now in
    let x = c.index.result.now in
    let at = subst (λ (v : CatalogState). x ≡ get_or v.leaves c.place_of.result x) c.self.view_is c.index.ensures in
    located perm c.args.self.now.leaves c.place_of.result c.index.result.now c.place_of.ensures.within at c.place_of.ensures.begins c.place_of.ensures.one
    ∙ ap (λ (l : Leaf). l ∷ []) (sym c.copy.ensures)
