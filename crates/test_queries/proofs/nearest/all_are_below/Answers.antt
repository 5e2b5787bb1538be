use Rattle.std.proofs.Common.{◌≤◌, IsTrue, List, sym, ◌∙◌, subst, length, arith}
use Rattle.std.specs.List.{All}
use Rattle.std.proofs.lemmas.List.{take_all}
use Rattle.std.proofs.lemmas.List.Elements.{All-more, recursion_from_All}
use Rattle.std.proofs.lemmas.Option.{slice_get_within, get_or_from_slice_get}
use Rattle.mi_base.specs.Prefixes.{all_below}
use Rattle.mi_tree.specs.declared.outcomes.Leaf.{Leaf}
use Rattle.test_queries.proofs.nearest.all_are_below.Goals as goal

pub loop-place-preserved : goal.loop-place-preserved
loop-place-preserved c =
    let leaves = c.args.catalog.now.leaves in
    let leaf = c.leaf.result.now in
    let Below : Leaf → Type 0 = λ l. IsTrue (all_below c.args.pivots l.prefix) in
    let at = c.leaf.ensures in
    let here : Below leaf = sym c.below.ensures ∙ c.if-not-below.false in
    All-more Below leaves c.loop-place.place leaf (slice_get_within leaves c.loop-place.place leaf at) c.loop-place.invariant
    (subst Below (sym (get_or_from_slice_get leaves c.loop-place.place leaf leaf at)) here)

pub returns : goal.returns
returns c =
    let leaves = c.args.catalog.now.leaves in
    let Below : Leaf → Type 0 = λ l. IsTrue (all_below c.args.pivots l.prefix) in
    let past : length leaves ≤ c.loop-place.place = omega (arith, c.len-place-end.ensures) in
    λ h. recursion_from_All Below leaves (subst (λ (ls : List Leaf). All Below ls) (take_all c.loop-place.place leaves past) c.loop-place.invariant)
