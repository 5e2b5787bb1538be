use Rattle.std.proofs.Common.{◌≡◌, ◌+◌, ◌*◌, ◌∷◌, [], take, map, get_or, ap, sym, ◌∙◌, arith}
use Rattle.std.specs.Int.Digits.{number_from_digits}
use Rattle.std.proofs.lemmas.Int.Digits.{number_push}
use Rattle.std.proofs.lemmas.List.{take_more, map-append}
use Rattle.mi_key.specs.Clusters.{digit_of}
use Rattle.mi_key.proofs.ClusterLemmas.{below_at, digit-fits}
use Rattle.mi_key.proofs.clusters.unpadded_number.Goals as goal

pub overflow_mul-number : goal.overflow_mul-number
overflow_mul-number c =
    let low = below_at c.args.pivots c.as_slice-pivot-items.result.now c.loop-pivot.pivot-index c.loop-pivot-test.true c.loop-pivot.invariant.below in
    omega (arith, (digit-fits c.args.pivots c.loop-pivot.number (get_or c.as_slice-pivot-items.result.now c.loop-pivot.pivot-index 0) c.loop-pivot.pivot-index c.requires.few (omega arith) c.loop-pivot.invariant.small low).1)

pub overflow_add-number-in-loop-pivot : goal.overflow_add-number-in-loop-pivot
overflow_add-number-in-loop-pivot c =
    let low = below_at c.args.pivots c.as_slice-pivot-items.result.now c.loop-pivot.pivot-index c.loop-pivot-test.true c.loop-pivot.invariant.below in
    omega (arith, c.from.ensures, (digit-fits c.args.pivots c.loop-pivot.number (get_or c.as_slice-pivot-items.result.now c.loop-pivot.pivot-index 0) c.loop-pivot.pivot-index c.requires.few (omega arith) c.loop-pivot.invariant.small low).1)

pub overflow_add-number-in-loop-pivot-2 : goal.overflow_add-number-in-loop-pivot-2
overflow_add-number-in-loop-pivot-2 c =
    let low = below_at c.args.pivots c.as_slice-pivot-items.result.now c.loop-pivot.pivot-index c.loop-pivot-test.true c.loop-pivot.invariant.below in
    omega (arith, c.from.ensures, (digit-fits c.args.pivots c.loop-pivot.number (get_or c.as_slice-pivot-items.result.now c.loop-pivot.pivot-index 0) c.loop-pivot.pivot-index c.requires.few (omega arith) c.loop-pivot.invariant.small low).1)

pub loop-pivot-preserved : goal.loop-pivot-preserved
loop-pivot-preserved c =
    let items = c.as_slice-pivot-items.result.now in
    let i = c.loop-pivot.pivot-index in
    let b = c.args.pivots + 1 in
    let p = get_or items i 0 in
    let low = below_at c.args.pivots items i c.loop-pivot-test.true c.loop-pivot.invariant.below in
    let fits = digit-fits c.args.pivots c.loop-pivot.number p i c.requires.few (omega arith) c.loop-pivot.invariant.small low in
    let more : number_from_digits b (map digit_of (take (i + 1) items)) ≡ c.loop-pivot.number * b + (p + 1) =
    ap (λ xs. number_from_digits b (map digit_of xs)) (take_more items i 0 c.loop-pivot-test.true)
    ∙ ap (number_from_digits b) (map-append digit_of (take i items) (p ∷ []))
    ∙ number_push b (map digit_of (take i items)) (p + 1)
    ∙ ap (λ n. n * b + (p + 1)) (sym c.loop-pivot.invariant.so_far) in
    record {
      so_far = omega (arith, more, c.from.ensures);
      small = omega (arith, fits.0, c.from.ensures);
      few = c.loop-pivot.invariant.few;
      below = c.loop-pivot.invariant.below;
    }
