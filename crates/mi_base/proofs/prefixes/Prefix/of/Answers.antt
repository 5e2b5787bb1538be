use Rattle.std.proofs.Common.{◌≡◌, take, ap, ◌∙◌}
use Rattle.std.proofs.lemmas.List.{take_all}
use Rattle.mi_base.specs.Prefixes.{is_prefix}
use Rattle.mi_base.proofs.PermutationLemmas.{is_prefix-take}
use Rattle.mi_base.proofs.prefixes.Prefix.of.Goals as goal

pub invariant_of-result : goal.invariant_of-result
invariant_of-result c =
    let front = take c.args.depth c.as_slice.result.now in
    let all : c.loop-pivot.pivots.items ≡ take c.args.depth c.args.perm.now =
    c.loop-pivot.invariant.0 ∙ take_all c.loop-pivot.pivot-index front c.loop-pivot-test.false ∙ ap (take c.args.depth) c.as_slice.ensures.same in
    ap is_prefix all ∙ is_prefix-take c.args.depth c.args.perm.now c.requires.few c.requires.within c.as_slice.ensures.permutation
