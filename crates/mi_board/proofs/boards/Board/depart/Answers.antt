use Rattle.std.proofs.Common.{◌≡◌, sym, ap, subst, refl, ◌<◌, length}
use Rattle.mi_board.specs.Actors.{gone}
use Rattle.mi_board.specs.Boards.{BoardState, with_actor}
use Rattle.mi_board.proofs.ActorLemmas.{change_is}
use Rattle.mi_board.proofs.StepLemmas.{beside_board}
use Rattle.mi_board.proofs.boards.Board.depart.Goals as goal

pub invariant_of-self : goal.invariant_of-self
invariant_of-self c =
    let b = c.self.inside in
    let h = c.self.invariant in
    let known : c.args.actor < length b.actors.items = subst (λ (x : BoardState). c.args.actor < length x.actors) (sym c.self.view_is) c.requires in
    record {
      board = beside_board _ _ _ _ _ _ h.board gone c.args.actor _ (change_is gone b.actors.items c.args.actor c.index_mut.result.now _ known c.index_mut.ensures.value refl) (λ a. refl) (λ a. refl);
      each = h.each;
      pages = h.pages;
      shared = h.shared;
      retired_are = h.retired_are;
    }

pub returns : goal.returns
returns c =
    let b = c.self.inside in
    let known : c.args.actor < length b.actors.items = subst (λ (x : BoardState). c.args.actor < length x.actors) (sym c.self.view_is) c.requires in
    let now = change_is gone b.actors.items c.args.actor c.index_mut.result.now _ known c.index_mut.ensures.value refl in
    let was = ap (with_actor gone c.args.actor) c.self.view_is in
    cc
