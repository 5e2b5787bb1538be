use Rattle.std.proofs.Common.{refl, ℕ, List, ◌++◌, length, map, take, drop, ◌≡◌, [], ap, sym, ◌∙◌, arith, replicate, inl, inr}
use Rattle.std.proofs.Math.Seq.{take-append_seam}
use Rattle.std.proofs.lemmas.Bool.{eqb-true, eqb-false}
use Rattle.std.proofs.lemmas.List.{drop_all}
use Rattle.std.proofs.lemmas.Simd.{splat_is_map}
use Rattle.mi_base.specs.declared.limits.TheConstants.{MAX_DISTANCE}
use Rattle.mi_choose.specs.Covering.{cover_of, from_nearest}
use Rattle.mi_choose.specs.Farthest.{chosen_after, objects_at}
use Rattle.mi_choose.proofs.ChoiceLemmas.{choice_is, found_farthest, places_inside, twice}
use Rattle.mi_choose.proofs.choosing.choose.Goals as goal
use Rattle.mi_choose.proofs.choosing.choose.Goals.{then-is_empty, else-is_empty}

-- a slice of all items is written back
written_back : (n : ℕ) (old new : List ℕ) → length old ≡ n → length new ≡ n → take n (new ++ drop (length new) old) ≡ new
written_back n old new long same =
    ap (λ rest. take n (new ++ rest)) (drop_all (length new) old (omega arith)) ∙ ap (λ k. take k (new ++ [])) (sym same) ∙ take-append_seam new []

pub choose_places-places-requires-clause-none : goal.choose_places-places-requires-clause-none
choose_places-places-requires-clause-none g c =
    let m = g.M.Metric.space c.args.metric.now in
    let objects = c.args.objects.now in
    let filled : c.in_ok-distances.distances.items ≡ replicate c.len.result MAX_DISTANCE = c.in_ok-distances.ensures.items_if_clones_equal (λ y h. h) in
    c.as_mut_slice.ensures.value ∙ filled ∙ splat_is_map objects c.len.result MAX_DISTANCE (sym c.len.ensures)

pub returns : goal.returns
returns g c =
    let m = g.M.Metric.space c.args.metric.now in
    let laws = g.met.M.Metric.laws c.args.metric.now in
    let objects = c.args.objects.now in
    let chosen = c.in_ok-chosen.chosen in
    let members = objects_at objects chosen in
    let is : chosen ≡ chosen_after m objects c.args.count [] = c.in_ok-chosen.ensures.chosen in
    let far = c.farthest_of-far.result in
    let vec = c.in_ok-distances.distances in
    let same : length c.choose_places-places.new.distances ≡ vec.len = omega (arith, vec.ok.0, ap length c.as_mut_slice.ensures.value, c.choose_places-places.auto.distances) in
    let written = written_back vec.len vec.items c.choose_places-places.new.distances (omega (arith, vec.ok.0)) same in
    let distances : c.as_slice.result.now ≡ map (from_nearest m members) objects = c.as_slice.ensures.value ∙ written ∙ c.in_ok-chosen.ensures.distances in
    let found = found_farthest m objects members c.as_slice.result.now far.distance far.place distances c.farthest_of-far.ensures.distance c.farthest_of-far.ensures.place in
    record {
      choice = choice_is m laws objects c.requires.objects c.args.count chosen c.if-is_empty.result far.distance far.place is found.0 found.1
          (elim c.if-is_empty.branch [
            | then-is_empty w ↦ inl (eqb-true (length objects) 0 (sym c.is_empty.ensures ∙ w.if-is_empty.true), w.result-is)
            | else-is_empty w ↦ inr (omega (arith, eqb-false (length objects) 0 (sym c.is_empty.ensures ∙ w.if-is_empty.false)), w.result-is)
          ]);
      apart = refl;
      twice = λ others fit few.
          omega (arith, found.0, ap (λ ps. cover_of m objects (objects_at objects ps)) is, twice m laws objects c.requires.objects c.args.count others fit few);
      places = places_inside m laws objects c.requires.objects c.args.count chosen is;
      steps = c.in_ok-chosen.ensures.steps;
    }
