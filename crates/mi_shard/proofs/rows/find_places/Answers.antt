use Rattle.std.proofs.Common.{◌≡◌, ◌<◌, ◌≤◌, ◌+◌, ◌==◌, ◌∙◌, ap, sym, subst, refl, arith, hash_map_len, length, false, None, Some, nat_eq, if◌then◌else◌, is_some, Option, ℕ, take}
use Rattle.std.specs.HashMap.{get, spare}
use Rattle.std.specs.Prelude.{slice_get}
use Rattle.std.proofs.lemmas.Bool.{false≢true}
use Rattle.std.proofs.lemmas.Option.{slice_get_read}
use Rattle.mi_entries.specs.Records.{ShardRecord}
use Rattle.mi_shard.specs.Places.{ArePlaces, StandsAt}
use Rattle.mi_shard.proofs.PlaceLemmas.{fewer_before, gap_further, not_before, record_further}
use Rattle.mi_shard.proofs.rows.find_places.Goals as goal
use Rattle.mi_shard.proofs.rows.find_places.Goals.{in-Some+in-Ok, in_default}

pub unreachable-requires : goal.unreachable-requires
unreachable-requires c =
    let rows = c.args.rows.now in
    let place = c.loop-place.place in
    let s : StandsAt rows place c.in-Some.row = slice_get_read rows (length rows) place c.index-rows-place.result refl c.loop-place-test.true c.index-rows-place.is ∙ ap Some c.in-Some.is in
    let some : 0 < spare c.loop-place.places = omega (arith, fewer_before rows place c.in-Some.row s, c.loop-place.invariant.room, c.loop-place.invariant.places.count, c.requires.room) in
    absurd (false≢true (c.in_default-insert.ensures.succeeds some))

pub loop-place-preserved : goal.loop-place-preserved
loop-place-preserved c =
    let rows = c.args.rows.now in
    let place = c.loop-place.place in
    let m = c.loop-place.places in
    let read : slice_get rows place ≡ Some c.index-rows-place.result = slice_get_read rows (length rows) place c.index-rows-place.result refl c.loop-place-test.true c.index-rows-place.is in
    elim c.match-row.branch [
      | in-Some+in-Ok w ↦
          let x = w.in-Some.row in
          let n = w.insert.new.self in
          let told = w.in-Ok.ensures in
          let s : StandsAt rows place x = read ∙ ap Some w.in-Some.is in
          let id_is : w.get.result ≡ x.id = w.get.ensures.same ∙ ap (λ (y : ShardRecord). y.id) w.row.view_is in
          let none : get nat_eq m x.id ≡ None = not_before rows place m x c.requires.single c.loop-place.invariant.places s in
          let old : w.in-Ok.field-0 ≡ None = told.old ∙ ap (get nat_eq m) id_is ∙ none in
          let count : hash_map_len n ≡ hash_map_len m + 1 = told.len ∙ ap (λ (o : Option ℕ). hash_map_len m + (if is_some o then 0 else 1)) old in
          let here : get nat_eq n x.id ≡ Some place = subst (λ k. get nat_eq n k ≡ Some place) id_is told.updates.1 in
          let others = subst (λ k. (q : ℕ) → (k == q) ≡ false → get nat_eq n q ≡ get nat_eq m q) id_is told.updates.2 in
          record {
            places = subst (ArePlaces (take (place + 1) rows)) (sym w.places-is) (record_further rows place m c.loop-place.invariant.places n x c.requires.single s others here count);
            room =
                let kept : hash_map_len c.args.places.now + spare c.args.places.now ≤ hash_map_len n + spare n = omega (arith, c.loop-place.invariant.room, count, told.spare) in
                subst (λ l. hash_map_len c.args.places.now + spare c.args.places.now ≤ hash_map_len l + spare l) (sym w.places-is) kept;
          }
      | in_default w ↦ record {
        places = subst (ArePlaces (take (place + 1) rows)) (sym w.places-is) (gap_further rows place m c.loop-place.invariant.places (read ∙ ap Some w.in_default.is));
        room = subst (λ l. hash_map_len c.args.places.now + spare c.args.places.now ≤ hash_map_len l + spare l) (sym w.places-is) c.loop-place.invariant.room;
      }
    ]
