use Rattle.std.proofs.Common.{ap, ◌∙◌, subst, length, List, ℕ}
use Rattle.std.specs.List.Sorted.{IsPermutation}
use Rattle.mi_perm.proofs.OrderingLemmas.{numbers-refilled}
use Rattle.mi_perm.proofs.ordering.nearest_first.Goals as goal

pub returns : goal.returns
returns c =
    let P : List (ℕ × ℕ) → Type 0 = λ xs. IsPermutation xs c.sort_unstable.new.self in
    c.numbers_in.ensures
    ∙ numbers-refilled c.args.dists.now.items c.numbered-pairs.result.items c.sort_unstable.new.self c.numbered-pairs.ensures
    (c.sort_unstable.ensures.len ∙ ap length c.deref_mut.ensures.value) (subst P c.deref_mut.ensures.value c.sort_unstable.ensures.permutation) c.sort_unstable.ensures.sorted
