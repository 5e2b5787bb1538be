use Rattle.std.proofs.Common.{◌≡◌, ◌+◌, ◌==◌, ◌∷◌, ◌++◌, [], ◌∙◌, ap, sym, subst, arith, hash_map_len, length, None, Some, nat_eq, if◌then◌else◌, is_some, false, Option, ℕ}
use Rattle.std.specs.HashMap.{get}
use Rattle.std.specs.List.{find}
use Rattle.std.proofs.lemmas.List.Elements.{filter_map-append}
use Rattle.mi_entries.specs.Records.{Rows, ShardRecord, with_record}
use Rattle.mi_shard.specs.Places.{ArePlaces, present}
use Rattle.mi_shard.proofs.PlaceLemmas.{no_place, record_more}
use Rattle.mi_shard.proofs.rows.ShardRows.insert.Goals as goal

pub invariant_of-self : goal.invariant_of-self
invariant_of-self c =
    let m = c.self.inside.places in
    let n = c.insert.new.self in
    let rows = c.self.inside.rows in
    let x = c.args.row in
    let told = c.in-Ok.ensures in
    let id_is : c.get.result ≡ x.id = c.get.ensures.same ∙ ap (λ (y : ShardRecord). y.id) c.row.view_is in
    let none : get nat_eq m x.id ≡ None = no_place rows.items m c.self.invariant.0 x.id (ap (λ (s : Rows). find (λ y. y.id == x.id) s.records) c.self.view_is ∙ c.requires.absent) in
    let old : c.in-Ok.field-0 ≡ None = told.old ∙ ap (get nat_eq m) id_is ∙ none in
    let count : hash_map_len n ≡ hash_map_len m + 1 = told.len ∙ ap (λ (o : Option ℕ). hash_map_len m + (if is_some o then 0 else 1)) old in
    let here : get nat_eq n x.id ≡ Some c.len-place.result = subst (λ k. get nat_eq n k ≡ Some c.len-place.result) id_is told.updates.1 in
    let long : c.len-place.result ≡ length rows.items = omega arith in
    let are : ArePlaces (rows.items ++ Some x ∷ []) n = record_more rows.items m c.self.invariant.0 n x none (subst (λ k. (q : ℕ) → (k == q) ≡ false → get nat_eq n q ≡ get nat_eq m q) id_is told.updates.2) (here ∙ ap Some long) count in (
      subst (λ l. ArePlaces l n) (sym c.push_reserved.ensures.items) are,
      record { in_rows = omega (arith, c.self.invariant.1.in_rows); in_places = omega (arith, c.self.invariant.1.in_places) },
    )

pub returns : goal.returns
returns c =
    ap (λ xs. record { records = xs; room = c.self.inside.room }) (ap present c.push_reserved.ensures.items ∙ filter_map-append (λ row. row) c.self.inside.rows.items (Some c.args.row ∷ [])) ∙ ap (with_record c.args.row) c.self.view_is
