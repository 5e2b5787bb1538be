use Rattle.std.proofs.Common.{◌≡◌, ◌+◌, ◌==◌, ◌∙◌, ap, sym, subst, arith, hash_map_len, length, false, if◌then◌else◌, is_some, None, Option, Some, nat_eq, vec_len, ℕ}
use Rattle.std.specs.HashMap.{get}
use Rattle.std.proofs.lemmas.Option.{slice_get_within}
use Rattle.mi_entries.specs.Records.{without_id}
use Rattle.mi_shard.proofs.PlaceLemmas.{all_stay, few, fewer, one_at, others_stay, record_less, single_less}
use Rattle.mi_shard.proofs.rows.ShardRows.remove.Goals as goal

pub returns-in_default : goal.returns-in_default
returns-in_default c =
    let m = c.self.inside.places in
    let none : get nat_eq m c.args.id ≡ None = ap (get nat_eq m) (sym c.get.ensures.same) ∙ sym c.get-2.ensures.value ∙ sym c.copied.ensures ∙ c.in_default.is in
    sym c.self.view_is ∙ ap (λ xs. record { records = xs; room = c.self.inside.room }) (sym (all_stay c.self.inside.rows.items m c.self.invariant.0 c.args.id none)) ∙ ap (without_id c.args.id) c.self.view_is

pub overflow_sub-gaps : goal.overflow_sub-gaps
overflow_sub-gaps c = omega (arith, few c.self.inside.rows.items, c.self.invariant.0.count)

pub index_mut-requires : goal.index_mut-requires
index_mut-requires c =
    let m = c.self.inside.places in
    let rows = c.self.inside.rows in
    let at : get nat_eq m c.args.id ≡ Some c.in-Some.place = ap (get nat_eq m) (sym c.get.ensures.same) ∙ sym c.get-2.ensures.value ∙ sym c.copied.ensures ∙ c.in-Some.is in
    let o = one_at rows.items m c.self.invariant.0 c.args.id c.in-Some.place at in
    omega (arith, slice_get_within rows.items c.in-Some.place (Some o.0) o.1)

pub invariant_of-self : goal.invariant_of-self
invariant_of-self c =
    let m = c.self.inside.places in
    let n = c.remove.new.self in
    let rows = c.self.inside.rows in
    let place = c.in-Some.place in
    let told = c.remove.ensures in
    let id_is : c.get-then-self-capacity.result ≡ c.args.id = c.get-then-self-capacity.ensures.same in
    let at : get nat_eq m c.args.id ≡ Some place = ap (get nat_eq m) (sym c.get.ensures.same) ∙ sym c.get-2.ensures.value ∙ sym c.copied.ensures ∙ c.in-Some.is in
    let taken : c.remove.result ≡ Some place = told.value ∙ ap (get nat_eq m) id_is ∙ at in
    let count : hash_map_len n + 1 ≡ hash_map_len m = ap (λ (o : Option ℕ). hash_map_len n + (if is_some o then 1 else 0)) (sym taken) ∙ told.len in
    let gone : get nat_eq n c.args.id ≡ None = subst (λ k. get nat_eq n k ≡ None) id_is told.updates.1 in
    let others = subst (λ k. (q : ℕ) → (k == q) ≡ false → get nat_eq n q ≡ get nat_eq m q) id_is told.updates.2 in (
      record_less rows.items m c.self.invariant.0 n c.args.id place at others gone count,
      record {
        in_rows = omega (arith, count, c.self.invariant.1.in_rows, few rows.items, c.self.invariant.0.count);
        in_places = omega (arith, count, told.spare, c.self.invariant.1.in_places);
      },
    )

pub invariant_of-self-else-self-capacity : goal.invariant_of-self-else-self-capacity
invariant_of-self-else-self-capacity c =
    let rows = c.self.inside.rows in
    let there = c.close_gaps.ensures.places in
    let live : hash_map_len c.close_gaps.new.places ≡ vec_len c.close_gaps.new.rows = there.count ∙ ap length c.close_gaps.ensures.records ∙ sym c.close_gaps.ensures.closed in (
      there,
      record {
        in_rows = omega (arith, live, c.close_gaps.ensures.capacity, c.self.invariant.1.in_rows, few rows.items, c.self.invariant.0.count);
        in_places = omega (arith, c.close_gaps.ensures.room, c.self.invariant.1.in_places);
      },
    )

pub returns-then-self-capacity : goal.returns-then-self-capacity
returns-then-self-capacity c =
    let m = c.self.inside.places in
    let at : get nat_eq m c.args.id ≡ Some c.in-Some.place = ap (get nat_eq m) (sym c.get.ensures.same) ∙ sym c.get-2.ensures.value ∙ sym c.copied.ensures ∙ c.in-Some.is in
    ap (λ xs. record { records = xs; room = c.self.inside.room }) (others_stay c.self.inside.rows.items m c.self.invariant.0 c.args.id c.in-Some.place at) ∙ ap (without_id c.args.id) c.self.view_is

pub returns-else-self-capacity : goal.returns-else-self-capacity
returns-else-self-capacity c =
    let m = c.self.inside.places in
    let at : get nat_eq m c.args.id ≡ Some c.in-Some.place = ap (get nat_eq m) (sym c.get.ensures.same) ∙ sym c.get-2.ensures.value ∙ sym c.copied.ensures ∙ c.in-Some.is in
    ap (λ xs. record { records = xs; room = c.self.inside.room }) (c.close_gaps.ensures.records ∙ others_stay c.self.inside.rows.items m c.self.invariant.0 c.args.id c.in-Some.place at) ∙ ap (without_id c.args.id) c.self.view_is

pub close_gaps-requires-clause-single : goal.close_gaps-requires-clause-single
close_gaps-requires-clause-single c = single_less c.self.inside.rows.items c.self.inside.places c.self.invariant.0 c.in-Some.place

pub close_gaps-requires-clause-room : goal.close_gaps-requires-clause-room
close_gaps-requires-clause-room c =
    let m = c.self.inside.places in
    let at : get nat_eq m c.args.id ≡ Some c.in-Some.place = ap (get nat_eq m) (sym c.get.ensures.same) ∙ sym c.get-2.ensures.value ∙ sym c.copied.ensures ∙ c.in-Some.is in
    omega (arith, fewer c.self.inside.rows.items m c.self.invariant.0 c.args.id c.in-Some.place at)
