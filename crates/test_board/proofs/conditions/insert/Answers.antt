use Rattle.std.proofs.Common.{◌≡◌, ◌∙◌, sym, ap, ℕ, List, Bool, false}
use Rattle.std.specs.Prelude.{◌==◌}
use Rattle.std.specs.List.{list_any}
use Rattle.mi_base.specs.declared.records.LogEvent.{LogEvent}
use Rattle.mi_base.specs.History.{Object, is_live, live, updates_of}
use Rattle.mi_tree.proofs.CountLemmas.{any_map}
use Rattle.test_board.specs.declared.conditions.Live.{Live}
use Rattle.test_board.proofs.conditions.insert.Goals as goal

pub commit_insert-number-requires-clause-object : goal.commit_insert-number-requires-clause-object
commit_insert-number-requires-clause-object g c =
    let b = c.args.board.now in
    let id : ℕ = c.args.object.now.id in
    let object : Live → Object = λ o. record { id = o.id; vector = o.vector } in
    let named : Object → Bool = λ o. o.id == id in
    let whole = c.in_ok-objects.ensures ∙ ap (λ (l : List LogEvent). live (updates_of l)) c.log.ensures.same in
    let none : list_any (λ (o : Live). named (object o)) c.in_ok-objects.objects.items ≡ false = sym (ap (list_any (λ (o : Live). named (object o))) c.deref.ensures.value) ∙ sym c.is_among.ensures ∙ c.if-is_among.false in
    let absent : is_live id (updates_of b.log) ≡ false = sym (ap (list_any named) whole) ∙ any_map named object c.in_ok-objects.objects.items ∙ none in
    record {
      fits = c.in_ok-place.ensures.fits;
      absent = absent;
      perm_is = ap (λ p. p.perm) c.in_ok-place.ensures.placed;
      distance_is = ap (λ p. p.distance) c.in_ok-place.ensures.placed;
    }
