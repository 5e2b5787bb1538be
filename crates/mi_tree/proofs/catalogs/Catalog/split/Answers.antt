use Rattle.std.proofs.Common.{◌≡◌, ◌∙◌, sym, ap, ◌<◌, length, subst, arith}
use Rattle.std.specs.List.{flat_map}
use Rattle.mi_tree.specs.Counting.{split_leaf}
use Rattle.mi_tree.specs.Catalog.{CatalogState, prefixes_of, IsCatalog}
use Rattle.mi_tree.proofs.CatalogLemmas.{split_keeps, prefixes_parted}
use Rattle.mi_tree.proofs.catalogs.Catalog.split.Goals as goal

pub invariant_of-self : goal.invariant_of-self
invariant_of-self c =
    let n = c.self.inside.pivots in
    let p = c.args.prefix.now in
    let ls = c.self.inside.leaves.items in
    let is : c.in-Ok.leaves.items ≡ flat_map (split_leaf n p c.args.objects.now) ls =
    subst (λ (v : CatalogState). c.in-Ok.leaves.items ≡ flat_map (split_leaf v.pivots p c.args.objects.now) v.leaves) (sym c.self.view_is) c.in-Ok.ensures in
    let above : length p < c.self.inside.levels = omega (arith, c.if-len-self.false, c.len.ensures) in
    subst (IsCatalog n c.self.inside.levels) (sym (ap prefixes_of is ∙ prefixes_parted n p c.args.objects.now ls)) (split_keeps n c.self.inside.levels p (prefixes_of ls) c.self.invariant above)
