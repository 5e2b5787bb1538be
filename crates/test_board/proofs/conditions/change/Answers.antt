use Rattle.std.proofs.Common.{◌≡◌, ◌∙◌, sym, ap, map, ℕ, not, rules}
use Rattle.std.specs.Prelude.{◌==◌}
use Rattle.std.specs.List.{filter}
use Rattle.std.proofs.lemmas.Fn.{filter_same}
use Rattle.mi_base.specs.History.{Object, live_after}
use Rattle.test_board.specs.declared.conditions.Live.{Live}
use Rattle.mi_tree.proofs.ListLemmas.{filter_map}
use Rattle.test_board.proofs.conditions.change.Goals as goal

pub returns-in-Delete : goal.returns-in-Delete
returns-in-Delete c =
    let id : ℕ = c.in-Delete.id in
    let object : Live → Object = λ o. record { id = o.id; vector = o.vector } in
    let xs = c.args.objects.now.items in
    let kept : c.retain.new.self.items ≡ filter (λ (o : Live). not (o.id == id)) xs = filter_same _ (λ (o : Live). not (o.id == id)) _ (λ x b f' k. search rules) _ _ c.retain.ensures.filtered in
    ap (map object) kept ∙ filter_map object (λ (o : Object). not (o.id == id)) xs ∙ ap (live_after (map object xs)) (sym c.in-Delete.is)
