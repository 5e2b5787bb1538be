use Rattle.std.proofs.Common.{◌≡◌, ◌∙◌, ◌<◌, sym, ap, subst, arith, length, true, Some, List, ℕ, get_or, [], ◌||◌, refl}
use Rattle.std.specs.List.{filter, list_any}
use Rattle.std.specs.Prelude.{IfSome, slice_get}
use Rattle.std.proofs.lemmas.List.{length-map}
use Rattle.mi_board.specs.declared.actors.ActorState.{ActorState}
use Rattle.mi_board.specs.Actors.{actor_at}
use Rattle.mi_board.specs.Boards.{BoardState, leaf_claimed, passing, prefix_or}
use Rattle.mi_board.specs.Marks.{marked}
use Rattle.mi_board.proofs.ActorLemmas.{actor_is, claimed_leaf}
use Rattle.mi_board.proofs.MarkLemmas.{cells_in_order, marked-more, prefix_there}
use Rattle.mi_board.proofs.StepLemmas.{boards_equal}
use Rattle.mi_tree.specs.declared.outcomes.Leaf.{Leaf}
use Rattle.mi_tree.specs.Catalog.{CatalogState, prefixes_of}
use Rattle.mi_tree.specs.Cells.{same_cell}
use Rattle.mi_tree.specs.Counting.{has_leaf}
use Rattle.mi_tree.specs.Legal.{cells_of}
use Rattle.mi_tree.specs.Order.{in_order}
use Rattle.mi_board.proofs.boards.Board.pass_over.Goals as goal

pub place_of-place-requires-clause-leaf : goal.place_of-place-requires-clause-leaf
place_of-place-requires-clause-leaf c =
    let b = c.self.inside in
    let h = c.self.invariant in
    let p = c.in-Some.prefix in
    let known : c.args.actor < length b.actors.items = subst (λ (x : BoardState). c.args.actor < length x.actors) (sym c.self.view_is) c.requires.known in
    let here : (actor_at b.actors.items c.args.actor).claim ≡ Some p = ap (λ (a : ActorState). a.claim) (actor_is b.actors.items c.args.actor c.index.result.now known c.index.ensures) ∙ c.in-Some.is in
    subst (λ (k : CatalogState). has_leaf p k.leaves ≡ true) (sym h.board.cells) (claimed_leaf (cells_of b.settings b.events.items) c.args.actor b.actors.items p here h.board.claims)

pub place_of-place-requires-clause-order : goal.place_of-place-requires-clause-order
place_of-place-requires-clause-order c =
    let b = c.self.inside in
    subst (λ (k : CatalogState). in_order (prefixes_of k.leaves) ≡ true) (sym c.self.invariant.board.cells) (cells_in_order b.settings b.events.items)

pub index_mut-requires : goal.index_mut-requires
index_mut-requires c = let each = c.self.invariant.each in let lt = c.place_of-place.ensures.within in omega (arith, each, lt, c.self.inside.marks.ok)

pub returns-in-Some : goal.returns-in-Some
returns-in-Some c =
    let b = c.self.inside in
    let h = c.self.invariant in
    let p = c.in-Some.prefix in
    let known : c.args.actor < length b.actors.items = subst (λ (x : BoardState). c.args.actor < length x.actors) (sym c.self.view_is) c.requires.known in
    let here : (actor_at b.actors.items c.args.actor).claim ≡ Some p = ap (λ (a : ActorState). a.claim) (actor_is b.actors.items c.args.actor c.index.result.now known c.index.ensures) ∙ c.in-Some.is in
    let ls = b.catalog.leaves in
    let place = c.place_of-place.result in
    let order = subst (λ (k : CatalogState). in_order (prefixes_of k.leaves) ≡ true) (sym h.board.cells) (cells_in_order b.settings b.events.items) in
    let size = length-map ls (λ (l : Leaf). l.prefix) in
    let lt = c.place_of-place.ensures.within in
    let is : get_or (prefixes_of ls) place [] ≡ p = prefix_there ls place p lt c.place_of-place.ensures.leaf in
    let more = marked-more (prefixes_of ls) b.marks.items place p order (h.each ∙ sym size) (omega (arith, lt, size)) is in
    let was = ap (λ (x : BoardState). record x { passed_over = passing (leaf_claimed x c.args.actor) x }) c.self.view_is in
    let marks : List (List ℕ) = marked (prefixes_of ls) b.marks.items in
    let cells : filter (λ q. same_cell p q || list_any (same_cell q) marks) (prefixes_of ls) ≡ filter (λ q. same_cell p q || list_any (same_cell q) marks) (prefixes_of (cells_of b.settings b.events.items)) =
    ap (λ (k : CatalogState). filter (λ q. same_cell p q || list_any (same_cell q) marks) (prefixes_of k.leaves)) h.board.cells in
    let mine : filter (λ q. same_cell p q || list_any (same_cell q) marks) (prefixes_of (cells_of b.settings b.events.items))
    ≡ filter (λ q. same_cell (prefix_or (actor_at b.actors.items c.args.actor).claim) q || list_any (same_cell q) marks) (prefixes_of (cells_of b.settings b.events.items)) =
    ap (λ (x : List ℕ). filter (λ q. same_cell x q || list_any (same_cell q) marks) (prefixes_of (cells_of b.settings b.events.items))) (sym (ap prefix_or here)) in
    boards_equal b.settings b.root b.height b.allotted _ refl refl refl (more ∙ cells ∙ mine) ∙ was
