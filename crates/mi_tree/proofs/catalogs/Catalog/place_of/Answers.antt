use Rattle.std.proofs.Common.{◌≡◌, ◌≤◌, ◌<◌, ◌∙◌, sym, ap, arith, ◌+◌, ◌-◌, ◌/◌, true, false, length, get_or, List, ℕ, [], subst}
use Rattle.std.specs.Prelude.{slice_get, IfSome}
use Rattle.std.proofs.lemmas.List.{length-map}
use Rattle.mi_base.specs.Permutations.{begins}
use Rattle.mi_tree.specs.declared.outcomes.Leaf.{Leaf}
use Rattle.mi_tree.specs.Order.{before}
use Rattle.mi_tree.specs.Counting.{leaves_beginning}
use Rattle.mi_tree.specs.Catalog.{CatalogState, prefixes_of}
use Rattle.mi_tree.proofs.SearchLemmas.{search_below, search_above}
use Rattle.mi_tree.proofs.CatalogLemmas.{prefix_at, beginning_counts, found_at}
use Rattle.mi_tree.proofs.catalogs.Catalog.place_of.Goals as goal

pub loop-high-preserved-then-is_before : goal.loop-high-preserved-then-is_before
loop-high-preserved-then-is_before c =
    let ls = c.self.inside.leaves.items in
    let middle = c.loop-high.low + (c.loop-high.high - c.loop-high.low) / 2 in
    let inv = c.loop-high.invariant in
    let far = c.loop-high-test.true in
    let lt : middle < length ls = omega (arith, inv.0, inv.1, far) in
    let at : get_or (prefixes_of ls) middle [] ≡ c.index.result.now.prefix = prefix_at ls middle c.index.result.now lt c.index.ensures in
    let test : before c.args.perm.now (get_or (prefixes_of ls) middle []) ≡ true =
    ap (before c.args.perm.now) at ∙ ap (λ (xs : List ℕ). before xs c.index.result.now.prefix) (sym c.as_slice-pivots.ensures.same) ∙ sym c.is_before.ensures ∙ c.if-is_before.true in
    let inside : middle < length (prefixes_of ls) = omega (arith, lt, length-map ls (λ (l : Leaf). l.prefix)) in
    (omega (arith, inv.0, far), omega (arith, lt), search_below (prefixes_of ls) c.args.perm.now c.self.invariant.3 c.loop-high.low c.loop-high.high middle inside inv.2 test)

pub loop-high-preserved : goal.loop-high-preserved
loop-high-preserved c =
    let ls = c.self.inside.leaves.items in
    let middle = c.loop-high.low + (c.loop-high.high - c.loop-high.low) / 2 in
    let inv = c.loop-high.invariant in
    let far = c.loop-high-test.true in
    let lt : middle < length ls = omega (arith, inv.0, inv.1, far) in
    let at : get_or (prefixes_of ls) middle [] ≡ c.index.result.now.prefix = prefix_at ls middle c.index.result.now lt c.index.ensures in
    let test : before c.args.perm.now (get_or (prefixes_of ls) middle []) ≡ false =
    ap (before c.args.perm.now) at ∙ ap (λ (xs : List ℕ). before xs c.index.result.now.prefix) (sym c.as_slice-pivots.ensures.same) ∙ sym c.is_before.ensures ∙ c.if-is_before.false in
    let inside : middle < length (prefixes_of ls) = omega (arith, lt, length-map ls (λ (l : Leaf). l.prefix)) in
    (omega (arith, inv.0, far), inv.1, search_above (prefixes_of ls) c.args.perm.now c.self.invariant.3 c.loop-high.low c.loop-high.high middle inside inv.2 test)

pub returns-clause-one : goal.returns-clause-one
returns-clause-one c =
    let long : length c.args.perm.now ≡ c.self.inside.pivots = c.requires ∙ ap (λ (v : CatalogState). v.pivots) (sym c.self.view_is) in
    ap (λ (v : CatalogState). length (leaves_beginning c.args.perm.now v.leaves)) (sym c.self.view_is)
    ∙ beginning_counts c.args.perm.now c.self.inside.leaves.items
    ∙ c.self.invariant.4 c.args.perm.now c.as_slice-pivots.ensures.permutation long

pub returns-clause-begins : goal.returns-clause-begins
returns-clause-begins c =
    let ls = c.self.inside.leaves.items in
    let perm = c.args.perm.now in
    let long : length perm ≡ c.self.inside.pivots = c.requires ∙ ap (λ (v : CatalogState). v.pivots) (sym c.self.view_is) in
    let one : length (leaves_beginning perm ls) ≡ 1 = beginning_counts perm ls ∙ c.self.invariant.4 perm c.as_slice-pivots.ensures.permutation long in
    let short : c.loop-high.high ≤ c.loop-high.low + 1 = omega (arith, c.loop-high-test.false) in
    subst (λ (v : CatalogState). IfSome (slice_get v.leaves c.loop-high.low) (λ l. begins l.prefix perm ≡ true)) c.self.view_is
    (found_at perm ls c.loop-high.low c.loop-high.high short c.loop-high.invariant.2 one)
