use Rattle.std.proofs.Common.{◌∷◌, [], ◌++◌, ap, sym, ◌∙◌, arith}
use Rattle.std.proofs.lemmas.List.FromFn.{map-range_with_len_more}
use Rattle.mi_perm.specs.Numbered.{number_pair}
use Rattle.mi_perm.proofs.ordering.numbered.Goals as goal

pub loop-number-preserved : goal.loop-number-preserved
loop-number-preserved c =
    let n = c.loop-number.number in
    let pair = number_pair c.as_slice-distance-items.result.now in
    record {
      paired = c.push.ensures.items ∙ ap (λ xs. xs ++ pair n ∷ []) c.loop-number.invariant.paired ∙ sym (map-range_with_len_more pair 0 n n (omega arith));
      count = omega (arith, c.push.ensures.len);
      few = c.loop-number.invariant.few;
    }
