use Rattle.std.proofs.Common.{◌≡◌, ℕ, ◌∙◌, sym, ap, subst, arith, refl, ◌<◌, ◌≤◌, ◌+◌, Some, None, length, List, [], ◌∷◌, ◌++◌, map}
use Rattle.std.specs.Vec.{vec_capacity}
use Rattle.mi_base.specs.declared.records.LogEvent.{LogEvent}
use Rattle.mi_base.specs.declared.records.LogEvent.TheVariants.{Split}
use Rattle.std.proofs.lemmas.List.{map-append}
use Rattle.mi_board.specs.declared.actors.ActorState.{ActorState}
use Rattle.mi_board.specs.declared.retired.RetiredLeaf.{RetiredLeaf}
use Rattle.mi_board.specs.Actors.{actor_at, without_claim}
use Rattle.mi_board.specs.Boards.{BoardState, MayPublish, leaf_claimed, prefix_or, with_split}
use Rattle.mi_board.specs.Marks.{split_marks}
use Rattle.mi_board.proofs.ActorLemmas.{actor_is, change_is, reserved}
use Rattle.mi_board.proofs.BoardLemmas.{split_few}
use Rattle.mi_board.proofs.StepLemmas.{boards_equal, publish_holds, publish_marks}
use Rattle.mi_tree.specs.Catalog.{CatalogState, prefixes_of}
use Rattle.mi_tree.proofs.LimitLemmas.{log_short}
use Rattle.mi_board.proofs.boards.Board.publish.Goals as goal

pub overflow_cast-len : goal.overflow_cast-len
overflow_cast-len c =
    let b = c.self.inside in
    let ib = c.self.invariant.board in
    omega (arith, log_short b.settings ib.limits b.events.items ib.legal, c.len.ensures, c.reserve.ensures.len)

pub split_cell-requires-clause-few : goal.split_cell-requires-clause-few
split_cell-requires-clause-few c =
    let b = c.self.inside in
    let ib = c.self.invariant.board in
    let may = subst (λ (x : BoardState). MayPublish x c.args.actor c.args.objects.now (leaf_claimed x c.args.actor)) (sym c.self.view_is) c.requires in
    omega (arith, split_few b.settings ib.limits b.events.items ib.legal _ may.wanted c.args.objects.now may.objects_are, ib.limits.cell.1)

pub invariant_of-self-2 : goal.invariant_of-self-2
invariant_of-self-2 c =
    let b = c.self.inside in
    let h = c.self.invariant in
    let actor = c.args.actor in
    let p = c.copy-prefix.result in
    let known : actor < length b.actors.items = subst (λ (x : BoardState). actor < length x.actors) (sym c.self.view_is) c.requires.known in
    let here : (actor_at b.actors.items actor).claim ≡ Some p = ap (λ (a : ActorState). a.claim) (actor_is b.actors.items actor c.index.result.now known c.index.ensures) ∙ c.in-Some.is ∙ ap Some (sym c.copy-prefix.ensures) in
    let pivots : c.pivots_of-pivots.result ≡ b.catalog.pivots = c.pivots_of-pivots.ensures ∙ sym (ap (λ (k : CatalogState). k.pivots) h.board.cells) in
    let marks_is : c.split_cell.new.marks.items ≡ split_marks b.catalog.pivots p (prefixes_of b.catalog.leaves) b.marks.items =
    c.in_ok-split_cell.ensures.marks ∙ ap (λ (n : ℕ). split_marks n p (prefixes_of b.catalog.leaves) b.marks.items) pivots in
    let pushed : c.push.new.self.items ≡ c.reserve.new.self.items ++ Split p ∷ [] = c.push.ensures.items ∙ (rw c.unwrap-2.ensures refl) in
    let log_is = pushed ∙ ap (λ (l : List LogEvent). l ++ Split p ∷ []) c.reserve.ensures.items in
    let last : record { prefix = c.copy.result; event = c.len.result } ≡ record { prefix = p; event = length b.events.items } = (let q = c.copy.ensures in let n : c.len.result ≡ length b.events.items = omega (arith, c.len.ensures, c.reserve.ensures.len) in cc) in
    let retired_is : c.push_back.new.self.items ≡ b.retired.items ++ record { prefix = p; event = length b.events.items } ∷ [] =
    c.push_back.ensures.items ∙ (rw c.unwrap.ensures refl) ∙ ap (λ (xs : List RetiredLeaf). xs ++ record { prefix = c.copy.result; event = c.len.result } ∷ []) c.reserve-2.ensures.items ∙ ap (λ (r : RetiredLeaf). b.retired.items ++ r ∷ []) last in
    let actors_is = change_is without_claim b.actors.items actor c.index_mut.result.now _ known c.index_mut.ensures.value refl in
    let may = subst (λ (x : BoardState). MayPublish x actor c.args.objects.now (leaf_claimed x actor)) (sym c.self.view_is) c.requires in
    let v : BoardState = record { settings = b.settings; log = b.events.items; actors = b.actors.items; retired = []; passed_over = []; root = 0; height = 0; allotted = 0; kept_at = None } in
    let mine : MayPublish v actor c.args.objects.now p = subst (MayPublish v actor c.args.objects.now) (ap prefix_or here) (record { known = may.known; claims = may.claims; wanted = may.wanted; objects_are = may.objects_are }) in
    let count : c.reservations-room.result ≡ reserved b.actors.items = c.reservations-room.ensures ∙ ap (λ (x : BoardState). reserved x.actors) (sym c.self.view_is) in
    let size = c.reserve.ensures.len in
    let more = c.in_ok-reserve.ensures.ok in
    let kept = c.push.ensures.capacity in
    let space : length b.events.items + (reserved b.actors.items + 1) ≤ vec_capacity c.push.new.self = omega (arith, more, kept, count, size) in
    publish_holds _ _ _ _ _ _ _ _ _ _ h p c.args.objects.now actor here mine.wanted mine.objects_are _ log_is _ c.in_ok-split_cell.ensures.catalog _ actors_is _ space _ marks_is _ retired_is

pub returns : goal.returns
returns c =
    let b = c.self.inside in
    let h = c.self.invariant in
    let actor = c.args.actor in
    let p = c.copy-prefix.result in
    let known : actor < length b.actors.items = subst (λ (x : BoardState). actor < length x.actors) (sym c.self.view_is) c.requires.known in
    let here : (actor_at b.actors.items actor).claim ≡ Some p = ap (λ (a : ActorState). a.claim) (actor_is b.actors.items actor c.index.result.now known c.index.ensures) ∙ c.in-Some.is ∙ ap Some (sym c.copy-prefix.ensures) in
    let pivots : c.pivots_of-pivots.result ≡ b.catalog.pivots = c.pivots_of-pivots.ensures ∙ sym (ap (λ (k : CatalogState). k.pivots) h.board.cells) in
    let marks_is : c.split_cell.new.marks.items ≡ split_marks b.catalog.pivots p (prefixes_of b.catalog.leaves) b.marks.items =
    c.in_ok-split_cell.ensures.marks ∙ ap (λ (n : ℕ). split_marks n p (prefixes_of b.catalog.leaves) b.marks.items) pivots in
    let pushed : c.push.new.self.items ≡ c.reserve.new.self.items ++ Split p ∷ [] = c.push.ensures.items ∙ (rw c.unwrap-2.ensures refl) in
    let log_is = pushed ∙ ap (λ (l : List LogEvent). l ++ Split p ∷ []) c.reserve.ensures.items in
    let last : record { prefix = c.copy.result; event = c.len.result } ≡ record { prefix = p; event = length b.events.items } = (let q = c.copy.ensures in let n : c.len.result ≡ length b.events.items = omega (arith, c.len.ensures, c.reserve.ensures.len) in cc) in
    let retired_is : c.push_back.new.self.items ≡ b.retired.items ++ record { prefix = p; event = length b.events.items } ∷ [] =
    c.push_back.ensures.items ∙ (rw c.unwrap.ensures refl) ∙ ap (λ (xs : List RetiredLeaf). xs ++ record { prefix = c.copy.result; event = c.len.result } ∷ []) c.reserve-2.ensures.items ∙ ap (λ (r : RetiredLeaf). b.retired.items ++ r ∷ []) last in
    let actors_is = change_is without_claim b.actors.items actor c.index_mut.result.now _ known c.index_mut.ensures.value refl in
    let named : p ≡ leaf_claimed c.args.self.now actor = sym (ap prefix_or here) ∙ ap (λ (x : BoardState). leaf_claimed x actor) c.self.view_is in
    let prefixes = ap (map (λ (r : RetiredLeaf). r.prefix)) retired_is ∙ map-append (λ (r : RetiredLeaf). r.prefix) b.retired.items (record { prefix = p; event = length b.events.items } ∷ []) in
    let left = publish_marks _ _ _ _ _ _ _ _ _ _ h p c.args.objects.now _ c.in_ok-split_cell.ensures.catalog _ marks_is in
    (c.end.ensures, boards_equal b.settings b.root b.height b.allotted _ log_is actors_is prefixes left ∙ ap (with_split p actor) c.self.view_is ∙ ap (λ (q : List ℕ). with_split q actor c.args.self.now) named)
