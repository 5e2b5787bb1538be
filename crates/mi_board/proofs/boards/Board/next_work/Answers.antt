use Rattle.std.proofs.Common.{◌≡◌, ◌∙◌, sym, ap, subst, refl, ◌<◌, Some, List, ℕ, length, true, false}
use Rattle.std.specs.List.{find}
use Rattle.mi_board.specs.Actors.{is_claimed, with_claim}
use Rattle.mi_board.specs.Boards.{BoardState, is_open, next_split}
use Rattle.mi_board.proofs.ActorLemmas.{change_is}
use Rattle.mi_board.proofs.FoundLemmas.{find_free, find_there}
use Rattle.mi_board.proofs.StepLemmas.{claim_board}
use Rattle.mi_tree.specs.Counting.{has_leaf}
use Rattle.mi_tree.specs.Legal.{cells_of}
use Rattle.mi_board.proofs.boards.Board.next_work.Goals as goal

pub invariant_of-self : goal.invariant_of-self
invariant_of-self c =
    let b = c.self.inside in
    let h = c.self.invariant in
    let s = c.take_retired.new.self in
    let leaf = c.in-Some-next_split.leaf in
    let found : next_split s ≡ Some leaf = sym c.next_split.ensures ∙ c.in-Some-next_split.is in
    let there = find_there (is_open s) (cells_of s.settings s.log) leaf found in
    let free = find_free s (cells_of s.settings s.log) leaf found in
    let same = c.in_default.ensures.same in
    let known : c.args.actor < length b.actors.items = subst (λ (x : BoardState). c.args.actor < length x.actors) (sym c.self.view_is) (subst (λ (x : BoardState). c.args.actor < length x.actors) (sym same) c.requires.known) in
    record {
      board = claim_board _ _ _ _ _ _ h.board leaf.prefix (subst (λ (x : BoardState). has_leaf leaf.prefix (cells_of x.settings x.log) ≡ true) (sym c.self.view_is) there) (subst (λ (x : BoardState). is_claimed leaf.prefix x.actors ≡ false) (sym c.self.view_is) free)
          c.args.actor _ (change_is (with_claim leaf.prefix) b.actors.items c.args.actor c.index_mut.result.now _ known c.index_mut.ensures.value (ap (λ (q : List ℕ). record c.index_mut.result.now { claim = Some q }) c.copy.ensures));
      each = h.each;
      pages = h.pages;
      shared = h.shared;
      retired_are = h.retired_are;
    }
