use Rattle.std.proofs.Common.{◌≡◌, ◌∙◌, sym, ap, ◌<◌, length, List, subst, map, true}
use Rattle.std.specs.Prelude.{slice_get, slice_set, IfSome}
use Rattle.mi_base.specs.Permutations.{begins}
use Rattle.mi_tree.specs.declared.outcomes.Leaf.{Leaf}
use Rattle.mi_tree.specs.Counting.{with_removed, leaves_beginning}
use Rattle.mi_tree.specs.Catalog.{CatalogState, IsCatalog}
use Rattle.mi_tree.proofs.CatalogLemmas.{prefixes_kept, removed_at}
use Rattle.mi_tree.proofs.catalogs.Catalog.remove.Goals as goal

pub invariant_of-self : goal.invariant_of-self
invariant_of-self c =
    let ls = c.self.inside.leaves.items in
    let place = c.place_of-place.result in
    let lt : place < length ls = subst (λ (v : CatalogState). place < length v.leaves) (sym c.self.view_is) c.place_of-place.ensures.within in
    let kept = prefixes_kept ls place c.index_mut.result.now c.take.new.leaf lt c.index_mut.ensures.value (ap (λ (l : Leaf). l.prefix) c.take.ensures) in
    subst (IsCatalog c.self.inside.pivots c.self.inside.levels) (sym kept) c.self.invariant

pub returns : goal.returns
returns c =
    let ls = c.self.inside.leaves.items in
    let perm = c.args.perm.now in
    let old = c.index_mut.result.now in
    let new = c.take.new.leaf in
    let place = c.place_of-place.result in
    let lt : place < length ls = subst (λ (v : CatalogState). place < length v.leaves) (sym c.self.view_is) c.place_of-place.ensures.within in
    let found : IfSome (slice_get ls place) (λ x. begins x.prefix perm ≡ true) = subst (λ (v : CatalogState). IfSome (slice_get v.leaves place) (λ x. begins x.prefix perm ≡ true)) (sym c.self.view_is) c.place_of-place.ensures.begins in
    let one : length (leaves_beginning perm ls) ≡ 1 = subst (λ (v : CatalogState). length (leaves_beginning perm v.leaves) ≡ 1) (sym c.self.view_is) c.place_of-place.ensures.one in
    let now : slice_set ls place new ≡ map (with_removed c.args.perm.now) ls = removed_at perm ls place old new lt c.index_mut.ensures.value found one c.take.ensures in
    ap (λ (xs : List Leaf). record { pivots = c.self.inside.pivots; levels = c.self.inside.levels; leaves = xs }) now
    ∙ ap (λ (v : CatalogState). record { pivots = v.pivots; levels = v.levels; leaves = map (with_removed c.args.perm.now) v.leaves }) c.self.view_is
