use Rattle.std.proofs.Common.{ap, ◌∙◌, nat_eq}
use Rattle.std.specs.List.{starts_with}
use Rattle.mi_base.proofs.PermutationLemmas.{begins-starts_with}
use Rattle.mi_base.proofs.prefixes.Prefix.begins.Goals as goal

pub returns : goal.returns
returns c =
    c.starts_with.ensures.value
    ∙ ap (λ ys. starts_with nat_eq ys c.as_slice-2.result.now) c.as_slice.ensures.same
    ∙ ap (starts_with nat_eq c.args.perm.now) c.as_slice-2.ensures.same
    ∙ begins-starts_with c.args.self.now c.args.perm.now
