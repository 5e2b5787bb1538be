use Rattle.std.proofs.Common.{◌∙◌, ℤ, List, subst, arith}
use Rattle.mi_base.specs.Vectors.{IsRefused}
use Rattle.mi_make.proofs.DrawLemmas.{is_vector}
use Rattle.mi_make.proofs.draws.Draws.vector.Goals as goal

pub unreachable-requires : goal.unreachable-requires
unreachable-requires c =
    let why = c.in-Err.field-0 in
    let refused = subst (λ (xs : List ℤ). IsRefused xs why) (c.as_slice.ensures.value ∙ c.items-items.ensures.value) c.in-Err.ensures.err in
    is_vector 16 c.args.self.now.state why (omega arith) (omega arith) refused
