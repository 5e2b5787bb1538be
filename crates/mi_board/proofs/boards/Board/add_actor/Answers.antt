use Rattle.std.proofs.Common.{◌≡◌, ◌∙◌, ap, arith, ◌++◌, ◌∷◌, []}
use Rattle.mi_board.specs.declared.actors.ActorState.{ActorState}
use Rattle.mi_board.specs.Actors.{idle}
use Rattle.mi_board.proofs.StepLemmas.{more_board}
use Rattle.mi_board.proofs.boards.Board.add_actor.Goals as goal

pub invariant_of-self-2 : goal.invariant_of-self-2
invariant_of-self-2 c =
    let b = c.self.inside in
    let h = c.self.invariant in
    let pushed : c.push.new.self.items ≡ b.actors.items ++ idle ∷ [] = c.in_ok-push.ensures.items ∙ ap (λ (a : ActorState). b.actors.items ++ a ∷ []) c.idle.ensures in
    let few = h.board.few in
    let other = c.if-actor.false in
    record {
      board = more_board _ _ _ _ _ _ h.board _ pushed (omega (arith, few, other, c.len-actor.ensures));
      each = h.each;
      pages = h.pages;
      shared = h.shared;
      retired_are = h.retired_are;
    }
