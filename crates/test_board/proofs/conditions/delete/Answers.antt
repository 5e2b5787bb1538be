use Rattle.std.proofs.Common.{◌≡◌, ◌∙◌, sym, ap, ℕ, List, Some, true, ◌&&◌, refl, rules}
use Rattle.std.specs.Prelude.{◌==◌, option_map}
use Rattle.std.specs.List.{slice_get}
use Rattle.std.proofs.lemmas.Bool.{eq-eqb}
use Rattle.std.proofs.lemmas.Option.{slice_get-map, slice_get_read}
use Rattle.mi_base.specs.declared.records.LogEvent.{LogEvent}
use Rattle.mi_base.specs.History.{Object, live, updates_of}
use Rattle.test_board.specs.declared.conditions.Live.{Live}
use Rattle.mi_board.specs.Boards.{grid_in}
use Rattle.test_board.proofs.ConditionLemmas.{any_at}
use Rattle.mi_tree.specs.Cells.{same_cell}
use Rattle.mi_tree.proofs.LeafLemmas.{same_self}
use Rattle.test_board.proofs.conditions.delete.Goals as goal

pub commit_delete-requires-clause-object : goal.commit_delete-requires-clause-object
commit_delete-requires-clause-object g c =
    let b = c.args.board.now in
    let id : ℕ = c.args.id in
    let object : Live → Object = λ o. record { id = o.id; vector = o.vector } in
    let o : Live = c.index-object.result.now in
    let p = c.in_ok-placed.placed.perm in
    let place = c.unwrap_or-place.result in
    let whole = c.in_ok-objects.ensures ∙ ap (λ (l : List LogEvent). live (updates_of l)) c.log.ensures.same in
    let there : slice_get c.in_ok-objects.objects.items place ≡ Some o = search (rules, slice_get_read) in
    let at : slice_get (live (updates_of b.log)) place ≡ Some (object o) = sym (ap (λ (os : List Object). slice_get os place) whole) ∙ slice_get-map object c.in_ok-objects.objects.items place ∙ ap (option_map object) there in
    let named : o.id ≡ id = search rules in
    let same : (o.id == id) ≡ true = eq-eqb o.id id named in
    let perm : same_cell p ((grid_in b).perm o.vector) ≡ true = ap (same_cell p) (sym (ap (λ x. x.perm) c.in_ok-placed.ensures.placed)) ∙ same_self p in
    any_at (λ (x : Object). (x.id == id) && same_cell p ((grid_in b).perm x.vector)) (live (updates_of b.log)) place (object o) at (rw (same, perm) refl)
