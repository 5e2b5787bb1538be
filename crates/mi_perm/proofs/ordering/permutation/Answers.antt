use Rattle.std.proofs.Common.{◌≤◌, ap, sym, ◌∙◌, length, arith}
use Rattle.std.proofs.lemmas.Bool.{false≢true}
use Rattle.mi_base.specs.Permutations.{is_permutation}
use Rattle.mi_base.proofs.PivotLemmas.{is_permutation-permutation_of, length-permutation_of}
use Rattle.mi_perm.proofs.ordering.permutation.Goals as goal

pub unreachable-requires : goal.unreachable-requires
unreachable-requires c =
    let dists = c.args.dists.now.items in
    let whole = c.as_slice.ensures.value ∙ c.nearest_first-numbers.ensures in
    let few : length dists ≤ 32 = omega (arith, c.as_slice.ensures.fits, ap length whole, length-permutation_of dists) in
    false≢true (sym c.in-None.ensures.none ∙ ap is_permutation whole ∙ is_permutation-permutation_of dists few)

pub returns-clause-count : goal.returns-clause-count
returns-clause-count c =
    ap length (c.in-Some.ensures.some.0 ∙ c.as_slice.ensures.value ∙ c.nearest_first-numbers.ensures) ∙ length-permutation_of c.args.dists.now.items
