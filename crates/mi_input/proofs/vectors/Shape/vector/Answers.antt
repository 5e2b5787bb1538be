use Rattle.std.proofs.Common.{◌≡◌, ◌+◌, length, ◌∙◌, sym, ap, arith, rules, length-append, ◌∷◌, [], FitsSigned, w64}
use Rattle.std.proofs.lemmas.Int.{to_z-of_z}
use Rattle.std.proofs.lemmas.Result.{err_from_is_err_and}
use Rattle.csv.specs.Records.{fields_of}
use Rattle.mi_input.specs.Numbers.{whole_in}
use Rattle.mi_input.proofs.EachLemmas.{each_more, each_stops}
use Rattle.mi_input.proofs.VectorLemmas.{coordinates_more, in_shape, not_refused}
use Rattle.mi_input.proofs.vectors.Shape.vector.Goals as goal

pub returns-in_err-whole : goal.returns-in_err-whole
returns-in_err-whole c =
    let shape = c.args.self.now in
    let low : FitsSigned w64 shape.lowest = search rules in
    let high : FitsSigned w64 shape.highest = search rules in
    let value = simp to_z-of_z at c.in_err-whole.ensures.value in
    let stops = each_stops (whole_in shape.lowest shape.highest) c.loop-place.items.items (fields_of c.args.fields.now) c.loop-place.place c.in_err-whole.field-0.0 (omega arith) (rw (← c.field.ensures) (sym value)) in
    let p = err_from_is_err_and c.from_residual.result c.from_residual.ensures.1 in
    rw (p.1, p.2) (sym stops ∙ c.loop-place.invariant.so_far)

pub loop-place-preserved : goal.loop-place-preserved
loop-place-preserved c =
    let shape = c.args.self.now in
    let x = c.in_ok-whole.field-0 in
    let fits : FitsSigned w64 x = search rules in
    let low : FitsSigned w64 shape.lowest = search rules in
    let high : FitsSigned w64 shape.highest = search rules in
    let value = simp to_z-of_z at c.in_ok-whole.ensures.value in
    let least = simp to_z-of_z at c.in_ok-whole.ensures.bounds.0 in
    let most = simp to_z-of_z at c.in_ok-whole.ensures.bounds.1 in
    let items = simp to_z-of_z at c.push.ensures.items in
    let more = each_more (whole_in shape.lowest shape.highest) c.loop-place.items.items (fields_of c.args.fields.now) c.loop-place.place x (omega arith) (rw (← c.field.ensures) (sym value)) in
    let count : length c.push.new.self.items ≡ length c.loop-place.items.items + 1 = rw items (length-append c.loop-place.items.items (x ∷ [])) in
    record {
      so_far = rw items (sym more ∙ c.loop-place.invariant.so_far);
      coordinates = rw items (coordinates_more c.loop-place.items.items x c.loop-place.invariant.coordinates (in_shape shape x c.requires.shape least most));
      count = omega (arith, count);
    }

pub unreachable-requires : goal.unreachable-requires
unreachable-requires c =
    let n = ap length c.as_slice.ensures.value in
    not_refused c.as_slice.result.now c.in-Err.field-0 (omega arith) (omega arith) (rw c.as_slice.ensures.value c.loop-place.invariant.coordinates) c.in-Err.ensures.err
