use Rattle.std.proofs.Common.{drop, ◌∙◌, sym, arith}
use Rattle.csv.specs.Records.{fields_of}
use Rattle.mi_input.proofs.ScriptLemmas.{op_few, script_done, script_more, script_stops}
use Rattle.mi_input.proofs.scripts.script_of.Goals as goal

pub returns-in-Err : goal.returns-in-Err
returns-in-Err c =
    let place = c.loop-fields.records in
    let read = rw c.number.ensures at c.in-Err.ensures in
    rw c.fault.ensures (sym c.loop-fields.invariant.so_far ∙ script_stops c.args.shape.now c.loop-fields.script place.number (fields_of c.in-Some.fields.now) (drop 1 place.records) place.records c.in-Err.why c.in-Some.ensures.some (sym read))

pub loop-fields-preserved : goal.loop-fields-preserved
loop-fields-preserved c =
    let place = c.loop-fields.records in
    let fields = fields_of c.in-Some.fields.now in
    let read = rw c.number.ensures at c.in-Ok.ensures in
    let more = script_more c.args.shape.now c.loop-fields.script place.number fields (drop 1 place.records) place.records c.in-Ok.op c.in-Some.ensures.some (sym read) in
    let few = op_few c.args.shape.now place.number fields c.in-Ok.op (sym read) in
    rw (c.in_ok-push-in-Ok.ensures.ok, c.in_ok-advance.ensures.ok) record {
      so_far = sym more ∙ c.loop-fields.invariant.so_far;
      few = omega (arith, few);
    }

pub returns : goal.returns
returns c =
    let place = c.loop-fields.records in
    sym c.loop-fields.invariant.so_far ∙ script_done c.args.shape.now c.loop-fields.script place.number place.records c.in_default.ensures.none
