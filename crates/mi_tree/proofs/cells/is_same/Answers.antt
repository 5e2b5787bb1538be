use Rattle.std.proofs.Common.{◌≡◌, ◌∙◌, sym, ap, nat_eq, length, true, arith, refl}
use Rattle.std.specs.List.{starts_with}
use Rattle.std.proofs.lemmas.Bool.{eq-eqb}
use Rattle.mi_base.proofs.PermutationLemmas.{begins-starts_with}
use Rattle.mi_tree.proofs.cells.is_same.Goals as goal

pub returns-then-len : goal.returns-then-len
returns-then-len c =
    let one = c.args.one.now in
    let other = c.args.other.now in
    let long : length one ≡ length other = omega (arith, c.if-len.true, c.len.ensures, c.len-2.ensures) in
    let same : nat_eq (length one) (length other) ≡ true = eq-eqb (length one) (length other) long in
    c.starts_with.ensures.value
    ∙ ap (λ ys. starts_with nat_eq ys c.as_slice-then-len.result.now) c.as_slice.ensures.same
    ∙ ap (starts_with nat_eq other) c.as_slice-then-len.ensures.same
    ∙ begins-starts_with one other
    ∙ sym (rw same refl)
