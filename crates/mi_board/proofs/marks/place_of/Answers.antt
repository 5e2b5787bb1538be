use Rattle.std.proofs.Common.{◌≡◌, ◌≤◌, ◌<◌, ◌∙◌, sym, ap, arith, ◌+◌, ◌-◌, ◌/◌, true, false, length, get_or, List, ℕ, [], subst}
use Rattle.std.proofs.lemmas.List.{length-map}
use Rattle.std.proofs.lemmas.Option.{get_or_from_slice_get}
use Rattle.mi_board.proofs.MarkLemmas.{first_place, leaf_at}
use Rattle.mi_tree.specs.declared.outcomes.Leaf.{Leaf}
use Rattle.mi_tree.specs.Catalog.{prefixes_of}
use Rattle.mi_tree.specs.Order.{before}
use Rattle.mi_tree.proofs.CatalogLemmas.{prefix_at}
use Rattle.mi_tree.proofs.SearchLemmas.{search_above, search_below}
use Rattle.mi_board.proofs.marks.place_of.Goals as goal

pub loop-high-init : goal.loop-high-init
loop-high-init c =
    let ls = c.args.catalog.now.leaves in
    let some = first_place c.args.prefix.now ls c.requires.leaf in
    let size = c.len-high.ensures in
    (omega (arith, some, size), omega (arith, size), λ k lt b. (omega arith, omega (arith, lt, size, length-map ls (λ (l : Leaf). l.prefix))))

pub loop-high-preserved-then-is_before : goal.loop-high-preserved-then-is_before
loop-high-preserved-then-is_before c =
    let ls = c.args.catalog.now.leaves in
    let middle = c.loop-high.low + (c.loop-high.high - c.loop-high.low) / 2 in
    let inv = c.loop-high.invariant in
    let far = c.loop-high-test.true in
    let lt : middle < length ls = omega (arith, inv.0, inv.1, far) in
    let leaf = c.leaf.result.now in
    let at : get_or (prefixes_of ls) middle [] ≡ leaf.prefix = prefix_at ls middle leaf lt (sym (get_or_from_slice_get ls middle leaf leaf c.leaf.ensures)) in
    let test : before c.args.prefix.now (get_or (prefixes_of ls) middle []) ≡ true =
    ap (before c.args.prefix.now) at ∙ ap (λ (xs : List ℕ). before xs leaf.prefix) (sym c.as_slice-pivots.ensures.same) ∙ sym c.is_before.ensures ∙ c.if-is_before.true in
    let inside : middle < length (prefixes_of ls) = omega (arith, lt, length-map ls (λ (l : Leaf). l.prefix)) in
    (omega (arith, inv.0, far), omega (arith, lt), search_below (prefixes_of ls) c.args.prefix.now c.requires.order c.loop-high.low c.loop-high.high middle inside inv.2 test)

pub loop-high-preserved : goal.loop-high-preserved
loop-high-preserved c =
    let ls = c.args.catalog.now.leaves in
    let middle = c.loop-high.low + (c.loop-high.high - c.loop-high.low) / 2 in
    let inv = c.loop-high.invariant in
    let far = c.loop-high-test.true in
    let lt : middle < length ls = omega (arith, inv.0, inv.1, far) in
    let leaf = c.leaf.result.now in
    let at : get_or (prefixes_of ls) middle [] ≡ leaf.prefix = prefix_at ls middle leaf lt (sym (get_or_from_slice_get ls middle leaf leaf c.leaf.ensures)) in
    let test : before c.args.prefix.now (get_or (prefixes_of ls) middle []) ≡ false =
    ap (before c.args.prefix.now) at ∙ ap (λ (xs : List ℕ). before xs leaf.prefix) (sym c.as_slice-pivots.ensures.same) ∙ sym c.is_before.ensures ∙ c.if-is_before.false in
    let inside : middle < length (prefixes_of ls) = omega (arith, lt, length-map ls (λ (l : Leaf). l.prefix)) in
    (omega (arith, inv.0, far), inv.1, search_above (prefixes_of ls) c.args.prefix.now c.requires.order c.loop-high.low c.loop-high.high middle inside inv.2 test)

pub returns-clause-leaf : goal.returns-clause-leaf
returns-clause-leaf c =
    let ls = c.args.catalog.now.leaves in
    let short : c.loop-high.high ≤ c.loop-high.low + 1 = omega (arith, c.loop-high-test.false) in
    leaf_at c.args.prefix.now ls c.loop-high.low c.loop-high.high short c.loop-high.invariant.2 c.requires.leaf
