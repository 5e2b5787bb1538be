use Rattle.std.proofs.Common.{◌<◌, ◌∷◌, [], codes, length, ◌∙◌, sym, arith, length-append}
use Rattle.std.proofs.lemmas.Result.{err_from_is_err_and}
use Rattle.mi_base.specs.Configuration.{IsTableRow}
use Rattle.mi_input.specs.Settings.{row_in}
use Rattle.mi_input.proofs.RunLemmas.{run_done, run_more, run_stops}
use Rattle.mi_input.proofs.TableLemmas.{each_push, first_more, first_stops}
use Rattle.mi_input.proofs.tables.table.Goals as goal

pub returns-in_err-next_row-clause-gives : goal.returns-in_err-next_row-clause-gives
returns-in_err-next_row-clause-gives c =
    let p = err_from_is_err_and c.from_residual.result c.from_residual.ensures.1 in
    rw (p.1, p.2) (first_stops c.args.records.now c.in_err-next_row.field-0.0 c.in_err-next_row.ensures.gives)

pub loop-alloc-init : goal.loop-alloc-init
loop-alloc-init c =
    let row = c.in_ok-next_row.field-0 in
    let rows = rw c.new-rows.ensures at c.in_ok-push.ensures.ok in
    rw rows record {
      so_far = first_more c.args.records.now c.next_row.new.records row c.in_ok-next_row.ensures.gives;
      each = (c.in_ok-next_row.ensures.row, tt);
      some = omega arith;
      few = omega arith;
      number = c.in_ok-next_row.ensures.number;
    }

pub returns-in_err-row-clause-gives : goal.returns-in_err-row-clause-gives
returns-in_err-row-clause-gives c =
    let p = err_from_is_err_and c.from_residual-in_err-row.result c.from_residual-in_err-row.ensures.1 in
    let gives = rw c.len.ensures at c.in_err-row.ensures.gives in
    let stops = run_stops (codes "row") row_in c.loop-alloc.rows c.loop-alloc.records c.in_err-row.field-0.0 (sym c.at_word.ensures ∙ c.loop-alloc-test.true) gives in
    rw (p.1, p.2, ← c.loop-alloc.invariant.so_far) stops

pub loop-alloc-preserved : goal.loop-alloc-preserved
loop-alloc-preserved c =
    let rows = c.loop-alloc.rows in
    let row = c.in_ok-row.row in
    let gives = rw c.len.ensures at c.in_ok-row.ensures.gives in
    let more = run_more (codes "row") row_in rows c.loop-alloc.records c.next_row-in-loop-alloc.new.records row (sym c.at_word.ensures ∙ c.loop-alloc-test.true) gives in
    let count = length-append rows (row ∷ []) in
    let below : length rows < 128 = rw c.len.ensures at c.in_ok-row.ensures.few in
    rw c.in_ok-push-2.ensures.ok record {
      so_far = sym more ∙ c.loop-alloc.invariant.so_far;
      each = each_push IsTableRow rows row c.loop-alloc.invariant.each c.in_ok-row.ensures.row;
      some = omega (arith, count);
      few = omega (arith, count, below);
      number = omega (arith, count, c.in_ok-row.ensures.number);
    }

pub returns-clause-gives : goal.returns-clause-gives
returns-clause-gives c =
    sym c.loop-alloc.invariant.so_far ∙ run_done (codes "row") row_in c.loop-alloc.rows c.loop-alloc.records (sym c.at_word.ensures ∙ c.loop-alloc-test.false)
