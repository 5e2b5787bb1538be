-- The cells of a pass's pin.
use Rattle.std.proofs.Common.{◌≡◌, ℕ, length, Bool, true, sym, ap, ◌∙◌, subst, Option, Some, None}
use Rattle.std.specs.Prelude.{IsSome, unwrap_or, []}
use Rattle.std.specs.Arc.{arc_value}
use Rattle.std.proofs.lemmas.Option.{none-some, same_Some}
use Rattle.atomic_table.specs.Seated.{TableId}
use Rattle.mi_base.specs.Configuration.{Configuration}
use Rattle.mi_base.specs.History.{at_position}
use Rattle.mi_board.specs.Boards.{cells_in}
use Rattle.mi_entries.specs.Actors.{Actor, Pin}
use Rattle.mi_entries.specs.Records.{Rows}
use Rattle.mi_latch.specs.Views.{Mine, Seated}
use Rattle.mi_solo.specs.declared.rows.ActorRow.{ActorRow}
use Rattle.mi_solo.specs.declared.rows.PinRow.{PinRow}
use Rattle.mi_solo.specs.States.{is_catalog_of, pin_of}
use Rattle.mi_solo.specs.Viewing.{pinned_log}
use Rattle.mi_solo.proofs.CoreLemmas.{catalog_is, of_catalog, pin_there}
use Rattle.mi_tree.specs.Legal.{cells_of}
use Rattle.mi_world.specs.Pages.{pinned}
use Rattle.mi_hall.specs.Passes.{HasCells, IsPass, PassState}
use Rattle.mi_hall.specs.Seats.{seat_view}
use Rattle.mi_hall.proofs.PassLemmas.{pin_shown}

module _ (me : Seated) (a : ℕ) (row : ActorRow) (rows : Option Rows) (told : Bool) (p : IsPass me a row rows told) (cells : HasCells me.0.mine) (table : TableId) (now : PassState) (same : record { sight = me.0; table = table } ≡ now)
    (some : IsSome (seat_view now.sight).pin) where
  abbrev m : Mine
  m = me.0.mine

  abbrev c : Configuration
  c = me.0.mine.note.board.settings

  has : (q : Pin) × (m.part.pin ≡ Some q)
  has = pin_shown m.log m.part.pin (subst (λ (z : PassState). IsSome (seat_view z.sight).pin) (sym same) some)

  its : pin_of c row.pin ≡ Some has.0
  its = sym (ap (λ (r : Actor). r.pin) p.row_is) ∙ has.1

  -- the row has a pin
  pub pin_row_there : row.pin ≡ None → ⊥
  pin_row_there e = none-some has.0 (sym (ap (pin_of c) e) ∙ its)

  -- and its catalog is that of the pinned log
  pub pinned_is : (r : PinRow) → row.pin ≡ Some r → arc_value r.cells ≡ cells_in (seat_view now.sight).settings (pinned (seat_view now.sight))
  pinned_is r e =
      let of_it : pin_of c (Some r) ≡ Some has.0 = ap (pin_of c) (sym e) ∙ its in
      let catalog : is_catalog_of c (arc_value r.cells) ≡ true = of_catalog c r has.0 of_it in
      let whole : record { at = r.at; cells = (arc_value r.cells).leaves } ≡ has.0 = same_Some _ has.0 (sym (pin_there c r catalog) ∙ of_it) in
      let leaves : (arc_value r.cells).leaves ≡ cells_of c (at_position m.log has.0.at) = ap (λ (q : Pin). q.cells) whole ∙ cells has.0 has.1 in
      let log : at_position m.log has.0.at ≡ pinned (seat_view me.0) = ap (λ o. unwrap_or (pinned_log m.log o) []) (sym has.1) in
      catalog_is c (arc_value r.cells) catalog ∙ ap (λ l. record { pivots = length c.pivots; levels = c.levels; leaves = l }) leaves ∙ ap (cells_in c) log
      ∙ ap (λ (z : PassState). cells_in (seat_view z.sight).settings (pinned (seat_view z.sight))) same
