use Rattle.std.proofs.Common.{◌≡◌, ◌<◌, ◌+◌, ◌-◌, ◌*◌, ◌∷◌, ◌++◌, [], suc, length, map, get_or, ap, sym, ◌∙◌, subst, arith, length-append}
use Rattle.std.specs.Prelude.{IsTrue}
use Rattle.std.proofs.lemmas.List.Elements.{All-from_recursion, All-get_or}
use Rattle.std.proofs.lemmas.Option.{get_or_from_slice_get, slice_get_within}
use Rattle.mi_choose.specs.Covering.{cover_of, from_nearest}
use Rattle.mi_choose.specs.Farthest.{chosen_after, objects_at}
use Rattle.mi_choose.proofs.CoverLemmas.{farthest_is}
use Rattle.mi_choose.proofs.ChoiceLemmas.{found_farthest, goes_on, nearer_distances, some_object}
use Rattle.mi_choose.proofs.choosing.choose_places.Goals as goal

pub at-member-requires : goal.at-member-requires
at-member-requires g c =
    let m = g.M.Metric.space c.args.metric.now in
    let objects = c.args.objects.now in
    let members = objects_at objects c.loop.chosen in
    let next = c.farthest_of-next.result in
    let found = found_farthest m objects members c.loop.distances next.distance next.place c.loop.invariant.distances c.farthest_of-next.ensures.distance c.farthest_of-next.ensures.place in
    let some : 0 < cover_of m objects members = omega (arith, found.0) in
    omega (arith, found.1, (farthest_is m objects members (some_object m objects members some)).0)

pub add_member-requires-clause-member : goal.add_member-requires-clause-member
add_member-requires-clause-member g c =
    let m = g.M.Metric.space c.args.metric.now in
    let objects = c.args.objects.now in
    let place = c.farthest_of-next.result.place in
    let there : get_or objects place [] ≡ c.at-member.result.now = get_or_from_slice_get objects place c.at-member.result.now [] c.at-member.ensures in
    subst (λ v. IsTrue (m.fits v)) there (All-get_or (λ v. IsTrue (m.fits v)) objects place [] (slice_get_within objects place c.at-member.result.now c.at-member.ensures) (All-from_recursion (λ v. IsTrue (m.fits v)) objects c.requires.objects))

pub loop-preserved : goal.loop-preserved
loop-preserved g c =
    let m = g.M.Metric.space c.args.metric.now in
    let objects = c.args.objects.now in
    let members = objects_at objects c.loop.chosen in
    let next = c.farthest_of-next.result in
    let found = found_farthest m objects members c.loop.distances next.distance next.place c.loop.invariant.distances c.farthest_of-next.ensures.distance c.farthest_of-next.ensures.place in
    let some : 0 < cover_of m objects members = omega (arith, found.0) in
    let left : c.args.count - c.loop.counter ≡ suc (c.args.count - (c.loop.counter + 1)) = omega arith in
    let pushed : c.push.new.self ≡ c.loop.chosen ++ next.place ∷ [] = c.in_ok-push.ensures.ok in
    let there : get_or objects next.place [] ≡ c.at-member.result.now = get_or_from_slice_get objects next.place c.at-member.result.now [] c.at-member.ensures in
    let long : length c.push.new.self ≡ length c.loop.chosen + 1 = omega (arith, ap length pushed, length-append c.loop.chosen (next.place ∷ [])) in
    let more : length objects * length c.push.new.self ≡ length objects * length c.loop.chosen + length objects = ap (λ n. length objects * n) long ∙ omega arith in
    record {
      rest = ap (chosen_after m objects (c.args.count - (c.loop.counter + 1))) (pushed ∙ ap (λ p. c.loop.chosen ++ p ∷ []) found.1)
          ∙ sym (goes_on m objects (c.args.count - (c.loop.counter + 1)) c.loop.chosen some) ∙ ap (λ n. chosen_after m objects n c.loop.chosen) (sym left) ∙ c.loop.invariant.rest;
      distances = nearer_distances m objects c.loop.chosen next.place c.at-member.result.now c.loop.distances c.add_member.new.distances c.loop.invariant.distances there
          c.add_member.ensures.same c.add_member.ensures.nearer ∙ ap (λ ps. map (from_nearest m (objects_at objects ps)) objects) (sym pushed);
      steps = omega (arith, c.add_member.ensures.steps, c.loop.invariant.steps, more);
      within = omega arith;
    }
