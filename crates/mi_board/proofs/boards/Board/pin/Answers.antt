use Rattle.std.proofs.Common.{◌≡◌, ◌∙◌, sym, ap, subst, refl, ◌<◌, length}
use Rattle.mi_board.specs.Actors.{with_pin}
use Rattle.mi_board.specs.Boards.{BoardState}
use Rattle.mi_board.proofs.ActorLemmas.{change_is}
use Rattle.mi_board.proofs.StepLemmas.{beside_board}
use Rattle.mi_board.proofs.boards.Board.pin.Goals as goal

pub invariant_of-self : goal.invariant_of-self
invariant_of-self g c =
    let b = c.self.inside in
    let h = c.self.invariant in
    let shared : length c.share.new.self.actors ≡ length c.args.self.now.actors = ap (λ (x : BoardState). length x.actors) c.in_ok-catalog.ensures.ok in
    let known : c.args.actor < length b.actors.items = subst (λ (x : BoardState). c.args.actor < length x.actors) (sym c.self.view_is) (subst (λ n. c.args.actor < n) (sym shared) c.requires.known) in
    record {
      board = beside_board _ _ _ _ _ _ h.board (with_pin c.end.result) c.args.actor _ (change_is (with_pin c.end.result) b.actors.items c.args.actor c.index_mut.result.now _ known c.index_mut.ensures.value refl) (λ a. refl) (λ a. refl);
      each = h.each;
      pages = h.pages;
      shared = h.shared;
      retired_are = h.retired_are;
    }
