use Rattle.std.proofs.Common.{drop, ◌∙◌, sym, arith}
use Rattle.csv.specs.Records.{fields_of}
use Rattle.mi_input.proofs.ScheduleLemmas.{next_ok, schedule_done, schedule_more, schedule_stops}
use Rattle.mi_input.proofs.schedules.schedule_of.Goals as goal

pub returns-in-Err : goal.returns-in-Err
returns-in-Err c =
    let place = c.loop-fields.records in
    let read = rw c.number.ensures at c.in-Err.ensures in
    rw c.fault.ensures (sym c.loop-fields.invariant.so_far ∙ schedule_stops c.args.sessions c.loop-fields.schedule c.loop-fields.turns place.number (fields_of c.in-Some.fields.now) (drop 1 place.records) place.records c.in-Err.why c.in-Some.ensures.some (sym read))

pub loop-fields-preserved : goal.loop-fields-preserved
loop-fields-preserved c =
    let place = c.loop-fields.records in
    let fields = fields_of c.in-Some.fields.now in
    let read = rw c.number.ensures at c.in-Ok.ensures in
    let more = schedule_more c.args.sessions c.loop-fields.schedule c.loop-fields.turns place.number fields (drop 1 place.records) place.records c.in-Ok.item c.in-Some.ensures.some (sym read) in
    let ok = next_ok c.args.sessions c.loop-fields.turns place.number fields c.in-Ok.item (sym read) in
    rw (c.in_ok-push-in-Ok.ensures.ok, c.in_ok-advance.ensures.ok, c.turns_of-turns.ensures.turns) record {
      so_far = sym more ∙ c.loop-fields.invariant.so_far;
      few = omega (arith, ok.0);
      small = ok.2;
    }

pub returns : goal.returns
returns c =
    let place = c.loop-fields.records in
    sym c.loop-fields.invariant.so_far ∙ schedule_done c.args.sessions c.loop-fields.schedule c.loop-fields.turns place.number place.records c.in_default.ensures.none
