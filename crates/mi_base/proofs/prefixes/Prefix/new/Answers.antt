use Rattle.std.proofs.Common.{◌≡◌, [], ◌∷◌, ◌++◌, not, length, take, get_or, true, false, ◌&&◌, nat_lt, nat_le, sym, ap, ◌∙◌, arith}
use Rattle.std.proofs.lemmas.Bool.Decides.{nat_tests}
use Rattle.std.proofs.lemmas.List.Folds.{list_all_at, list_all_more}
use Rattle.std.proofs.lemmas.List.{take_more}
use Rattle.mi_base.specs.Prefixes.{has, all_below, are_different}
use Rattle.mi_base.proofs.PrefixLemmas.{are_different-append, are_different-repeat, and-false}
use Rattle.mi_base.proofs.prefixes.Prefix.new.Goals as goal
use Rattle.mi_base.proofs.prefixes.Prefix.new.Goals.{then-from-ge-MAX_PIVOTS-via-then-from-ge-MAX_PIVOTS, then-from-ge-MAX_PIVOTS-via-else-from-ge-MAX_PIVOTS+then-contains}

pub returns-then-from-ge-MAX_PIVOTS-clause-none : goal.returns-then-from-ge-MAX_PIVOTS-clause-none
returns-then-from-ge-MAX_PIVOTS-clause-none c =
    let items = c.args.items.now in
    let i = c.loop-item.item-index in
    elim c.then-from-ge-MAX_PIVOTS.branch [
      | then-from-ge-MAX_PIVOTS-via-then-from-ge-MAX_PIVOTS w ↦
          let high : nat_lt (get_or items i 0) 32 ≡ false = let h = w.if-from-ge-MAX_PIVOTS.true in grind (arith, nat_tests) in
          ap (λ b. nat_le (length items) 6 && (b && are_different items)) (list_all_at (λ x. nat_lt x 32) items i 0 c.loop-item-test.true high)
          ∙ and-false (nat_le (length items) 6)
      | then-from-ge-MAX_PIVOTS-via-else-from-ge-MAX_PIVOTS+then-contains w ↦
          let stands : has (get_or items i 0) (take i items) ≡ true =
          ap (has (get_or items i 0)) (sym (w.as_slice.ensures.value ∙ c.loop-item.invariant.kept)) ∙ sym w.contains.ensures.value ∙ w.if-contains.true in
          ap (λ b. nat_le (length items) 6 && (all_below 32 items && b)) (are_different-repeat items i c.loop-item-test.true stands)
          ∙ ap (λ b. nat_le (length items) 6 && b) (and-false (all_below 32 items))
          ∙ and-false (nat_le (length items) 6)
    ]

pub loop-item-preserved : goal.loop-item-preserved
loop-item-preserved c =
    let items = c.args.items.now in
    let i = c.loop-item.item-index in
    let low : nat_lt (get_or items i 0) 32 ≡ true = let h = c.if-from-ge-MAX_PIVOTS.false in grind (arith, nat_tests) in
    let apart : has (get_or items i 0) (take i items) ≡ false =
    ap (has (get_or items i 0)) (sym (c.as_slice.ensures.value ∙ c.loop-item.invariant.kept)) ∙ sym c.contains.ensures.value ∙ c.if-contains.false in
    record {
      kept = c.push.ensures.items ∙ ap (λ xs. xs ++ get_or items i 0 ∷ []) c.loop-item.invariant.kept ∙ sym (take_more items i 0 c.loop-item-test.true);
      below = list_all_more (λ x. nat_lt x 32) items i 0 c.loop-item-test.true ∙ ap (λ b. b && nat_lt (get_or items i 0) 32) c.loop-item.invariant.below ∙ low;
      different = ap are_different (take_more items i 0 c.loop-item-test.true) ∙ are_different-append (take i items) (get_or items i 0)
          ∙ ap (λ b. not b && are_different (take i items)) apart ∙ c.loop-item.invariant.different;
    }
