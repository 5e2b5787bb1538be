use Rattle.std.proofs.Common.{◌≡◌, ◌==◌, ◌∙◌, ap, sym, arith, None, Some, nat_eq}
use Rattle.std.specs.HashMap.{get}
use Rattle.std.specs.List.{find}
use Rattle.std.specs.Option.{option_copied}
use Rattle.std.proofs.lemmas.Option.{get_or_from_slice_get, slice_get_within}
use Rattle.mi_entries.specs.Records.{Rows}
use Rattle.mi_shard.proofs.PlaceLemmas.{none_at, one_at}
use Rattle.mi_shard.proofs.rows.ShardRows.record.Goals as goal

pub returns-in_err-place : goal.returns-in_err-place
returns-in_err-place c =
    let m = c.self.inside.places in
    let none : get nat_eq m c.args.id ≡ None = ap (get nat_eq m) (sym c.get.ensures.same) ∙ sym c.get-2.ensures.value ∙ ap option_copied c.in_err-place.was in
    ap option_copied c.from_residual.ensures ∙ sym (none_at c.self.inside.rows.items m c.self.invariant.0 c.args.id none) ∙ ap (λ (s : Rows). find (λ x. x.id == c.args.id) s.records) c.self.view_is

pub index-requires : goal.index-requires
index-requires c =
    let m = c.self.inside.places in
    let rows = c.self.inside.rows in
    let place = c.in_ok-place.field-0.now in
    let at : get nat_eq m c.args.id ≡ Some place = ap (get nat_eq m) (sym c.get.ensures.same) ∙ sym c.get-2.ensures.value ∙ ap option_copied c.in_ok-place.was in
    let o = one_at rows.items m c.self.invariant.0 c.args.id place at in
    omega (arith, slice_get_within rows.items place (Some o.0) o.1)

pub returns : goal.returns
returns c =
    let m = c.self.inside.places in
    let rows = c.self.inside.rows in
    let place = c.in_ok-place.field-0.now in
    let at : get nat_eq m c.args.id ≡ Some place = ap (get nat_eq m) (sym c.get.ensures.same) ∙ sym c.get-2.ensures.value ∙ ap option_copied c.in_ok-place.was in
    let o = one_at rows.items m c.self.invariant.0 c.args.id place at in
    c.as_ref.ensures.value ∙ c.index.ensures ∙ get_or_from_slice_get rows.items place (Some o.0) c.index.result.now o.1 ∙ sym o.2 ∙ ap (λ (s : Rows). find (λ x. x.id == c.args.id) s.records) c.self.view_is
