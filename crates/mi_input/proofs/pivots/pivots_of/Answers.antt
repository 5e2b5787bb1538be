use Rattle.std.proofs.Common.{◌<◌, ◌∷◌, [], codes, length, ◌∙◌, sym, arith, length-append}
use Rattle.std.proofs.lemmas.Result.{err_from_is_err_and}
use Rattle.mi_input.specs.Settings.{pivot_in}
use Rattle.mi_input.proofs.PivotLaws.{pivots_begin}
use Rattle.mi_input.proofs.RunLemmas.{run_done, run_more, run_stops}
use Rattle.mi_input.proofs.pivots.pivots_of.Goals as goal

pub loop-records-init : goal.loop-records-init
loop-records-init c =
    rw c.new-pivots.ensures record {
      so_far = pivots_begin c.args.shape.now c.args.records.now;
      few = omega arith;
      number = omega arith;
    }

pub returns-in_err-pivot-clause-gives : goal.returns-in_err-pivot-clause-gives
returns-in_err-pivot-clause-gives c =
    let p = err_from_is_err_and c.from_residual.result c.from_residual.ensures.1 in
    let gives = rw c.len.ensures at c.in_err-pivot.ensures.gives in
    let stops = run_stops (codes "pivot") (pivot_in c.args.shape.now) c.loop-records.pivots c.loop-records.records c.in_err-pivot.field-0.0 (sym c.at_word.ensures ∙ c.loop-records-test.true) gives in
    rw (p.1, p.2, ← c.loop-records.invariant.so_far) stops

pub loop-records-preserved : goal.loop-records-preserved
loop-records-preserved c =
    let pivots = c.loop-records.pivots in
    let pivot = c.in_ok-pivot.pivot in
    let gives = rw c.len.ensures at c.in_ok-pivot.ensures.gives in
    let more = run_more (codes "pivot") (pivot_in c.args.shape.now) pivots c.loop-records.records c.next_pivot.new.records pivot (sym c.at_word.ensures ∙ c.loop-records-test.true) gives in
    let count = length-append pivots (pivot ∷ []) in
    let below : length pivots < 32 = rw c.len.ensures at c.in_ok-pivot.ensures.few in
    rw c.in_ok-push.ensures.ok record {
      so_far = sym more ∙ c.loop-records.invariant.so_far;
      few = omega (arith, count, below);
      number = omega (arith, count, c.in_ok-pivot.ensures.number, c.loop-records.invariant.number);
    }

pub returns-clause-gives : goal.returns-clause-gives
returns-clause-gives c =
    sym c.loop-records.invariant.so_far ∙ run_done (codes "pivot") (pivot_in c.args.shape.now) c.loop-records.pivots c.loop-records.records (sym c.at_word.ensures ∙ c.loop-records-test.false)
