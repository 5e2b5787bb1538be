use Rattle.std.proofs.Common.{◌≡◌, ◌∙◌, sym, ap, Bool}
use Rattle.mi_board.specs.Actors.{without_claim}
use Rattle.mi_board.specs.Boards.{BoardState, given_up, with_actor}
use Rattle.mi_board.proofs.boards.Board.give_up.Goals as goal

pub returns : goal.returns
returns c =
    c.release_leaf-2.ensures ∙ ap (with_actor without_claim c.args.actor) c.pass_over.ensures ∙ ap (λ (pages : Bool). given_up pages c.args.actor c.args.self.now) (sym c.if-not-pages.false)
