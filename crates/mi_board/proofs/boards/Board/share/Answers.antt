use Rattle.std.proofs.Common.{◌≡◌, ◌∙◌, ◌+◌, sym, ap, subst, cond, ℕ, length}
use Rattle.mi_base.specs.History.{IsPosition, at_position, end_of}
use Rattle.mi_board.specs.Boards.{BoardState, cells_in}
use Rattle.mi_board.proofs.FloorLemmas.{at_end, end_position}
use Rattle.mi_tree.specs.Catalog.{CatalogState}
use Rattle.mi_tree.specs.Legal.{cells_of}
use Rattle.mi_board.proofs.boards.Board.share.Goals as goal

pub invariant_of-self : goal.invariant_of-self
invariant_of-self g c =
    let b = c.self.inside in
    let h = c.self.invariant in
    let log = b.events.items in
    let at = c.end-at.ensures ∙ ap (λ (x : BoardState). end_of x.log) (sym c.self.view_is) in
    let whole = ap (at_position log) at ∙ at_end log in
    record {
      board = h.board;
      each = h.each;
      pages = h.pages;
      shared = (subst (IsPosition log) (sym at) (end_position log), c.in-Ok.ensures.ok ∙ c.in_ok-copy.ensures.same ∙ h.board.cells ∙ ap (cells_in b.settings) (sym whole));
      retired_are = h.retired_are;
    }

pub returns-clause-ticks : goal.returns-clause-ticks
returns-clause-ticks g c =
    let b = c.self.inside in
    let s = c.args.self.now in
    let n = length (cells_of s.settings s.log) in
    let leaves : length b.catalog.leaves ≡ n = ap (λ (k : CatalogState). length k.leaves) c.self.invariant.board.cells ∙ ap (λ (x : BoardState). length (cells_of x.settings x.log)) c.self.view_is in
    c.in_ok-copy.ensures.ticks ∙ ap (λ (m : ℕ). c.args.steps.now + m) (leaves ∙ sym (ap (λ b. cond b 0 n) c.in_default.ensures.none))
