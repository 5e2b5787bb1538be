use Rattle.std.proofs.Common.{◌≡◌, ◌∙◌, sym, ap, subst, arith, refl, ◌<◌, ◌≤◌, ◌+◌, length, true}
use Rattle.std.specs.Vec.{vec_capacity}
use Rattle.mi_base.specs.History.{updates_of}
use Rattle.mi_board.specs.Actors.{with_reserved}
use Rattle.mi_board.specs.Boards.{BoardState, HasRoom, with_actor}
use Rattle.std.specs.List.{AllByRecursion}
use Rattle.mi_board.specs.Kept.{IsRetired, IsShared}
use Rattle.mi_board.proofs.ActorLemmas.{change_is, reserved}
use Rattle.mi_board.proofs.StepLemmas.{boards_equal, reserve_board}
use Rattle.mi_board.proofs.boards.Board.reserve.Goals as goal

pub invariant_of-self-2 : goal.invariant_of-self-2
invariant_of-self-2 c =
    let b = c.self.inside in
    let h = c.self.invariant in
    let known : c.args.actor < length b.actors.items = subst (λ (x : BoardState). c.args.actor < length x.actors) (sym c.self.view_is) c.requires in
    let count : c.reservations-room.result ≡ reserved b.actors.items = c.reservations-room.ensures ∙ ap (λ (x : BoardState). reserved x.actors) (sym c.self.view_is) in
    let actors_is = change_is (with_reserved true) b.actors.items c.args.actor c.index_mut.result.now _ known c.index_mut.ensures.value refl in
    let kept = c.reserve.ensures.items in
    let size = c.reserve.ensures.len in
    let space : length b.events.items + (reserved b.actors.items + 1) ≤ vec_capacity c.reserve.new.self = let more = c.in-Ok.ensures.ok in omega (arith, more, count, size) in
    record {
      board = reserve_board _ _ _ _ _ _ h.board c.args.actor _ kept _ actors_is _ space;
      each = h.each;
      pages = h.pages;
      shared = subst (λ l. IsShared b.settings l b.kept) (sym kept) h.shared;
      retired_are = subst (λ l. AllByRecursion (IsRetired l) b.retired.items) (sym kept) h.retired_are;
    }

pub returns : goal.returns
returns c =
    let b = c.self.inside in
    let known : c.args.actor < length b.actors.items = subst (λ (x : BoardState). c.args.actor < length x.actors) (sym c.self.view_is) c.requires in
    let room : length (updates_of b.events.items) < b.settings.updates = omega (arith, c.if-self-limit.false, c.limit_of-limit.ensures, c.self.invariant.board.counted) in
    let actors_is = change_is (with_reserved true) b.actors.items c.args.actor c.index_mut.result.now _ known c.index_mut.ensures.value refl in
    let whole = boards_equal b.settings b.root b.height b.allotted _ c.reserve.ensures.items actors_is refl refl ∙ ap (with_actor (with_reserved true) c.args.actor) c.self.view_is in
    (subst HasRoom c.self.view_is room, (c.look.ensures, whole))
