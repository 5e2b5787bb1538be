use Rattle.std.proofs.Common.{◌<◌, length, ◌∙◌, sym, refl, arith}
use Rattle.mi_base.specs.declared.limits.TheConstants.{MAX_DISTANCE}
use Rattle.csv.specs.Records.{fields_of}
use Rattle.mi_input.specs.Numbers.{count_in}
use Rattle.mi_input.proofs.EachLemmas.{each_done, each_stops}
use Rattle.mi_input.proofs.TableLemmas.{values_each, values_long, values_short}
use Rattle.mi_input.proofs.tables.values_of.Goals as goal
use Rattle.mi_input.proofs.tables.values_of.Goals.{then-len-lt2-via-then-len-lt2, then-len-lt2-via-else-len-lt2+then-len}

pub returns-then-len-lt2-clause-gives : goal.returns-then-len-lt2-clause-gives
returns-then-len-lt2-clause-gives c =
    let fields = fields_of c.args.fields.now in
    elim c.then-len-lt2.branch [
      | then-len-lt2-via-then-len-lt2 w ↦ let short : length fields < 2 = omega arith in rw (values_short fields short) refl
      | then-len-lt2-via-else-len-lt2+then-len w ↦ let long : 129 < length fields = omega arith in rw (values_long fields long) refl
    ]

pub returns-in-Err-clause-gives : goal.returns-in-Err-clause-gives
returns-in-Err-clause-gives c =
    let fields = fields_of c.args.fields.now in
    let whole = values_each fields (omega arith) (omega arith) ∙ sym c.loop-place.invariant.so_far
    ∙ each_stops (count_in 0 MAX_DISTANCE) c.loop-place.row fields c.loop-place.place c.in-Err.why (omega arith) (rw (← c.field.ensures) (sym c.in-Err.ensures.value)) in
    rw whole refl

pub returns-clause-gives : goal.returns-clause-gives
returns-clause-gives c =
    let fields = fields_of c.args.fields.now in
    let whole = values_each fields (omega arith) (omega arith) ∙ sym c.loop-place.invariant.so_far
    ∙ each_done (count_in 0 MAX_DISTANCE) c.loop-place.row fields c.loop-place.place (omega arith) in
    rw whole refl
