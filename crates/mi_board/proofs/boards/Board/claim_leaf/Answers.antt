use Rattle.std.proofs.Common.{◌≡◌, ℕ, ◌∙◌, sym, ap, subst, refl, ◌<◌, List, Some, length, false, true, ◌∷◌, []}
use Rattle.std.proofs.lemmas.Bool.{false≢true}
use Rattle.mi_board.specs.declared.actors.ActorState.{ActorState}
use Rattle.mi_board.specs.Actors.{actor_at, is_claim, is_claimed, with_claim}
use Rattle.mi_board.specs.Boards.{BoardState, with_actor}
use Rattle.mi_board.proofs.ActorLemmas.{change_is}
use Rattle.mi_board.proofs.FoundLemmas.{claims_of, kept_begins, kept_there}
use Rattle.mi_board.proofs.StepLemmas.{claim_board}
use Rattle.mi_tree.specs.Catalog.{CatalogState}
use Rattle.mi_tree.specs.Counting.{leaves_beginning}
use Rattle.mi_tree.specs.Legal.{cells_of}
use Rattle.mi_board.proofs.boards.Board.claim_leaf.Goals as goal

pub returns-in-Some : goal.returns-in-Some
returns-in-Some c =
    let actors = c.args.self.now.actors in
    let found = c.in-Some.ensures.some in
    let p = c.locate-leaf.result.prefix in
    let here = kept_begins c.args.perm.now c.self.inside.catalog.leaves c.locate-leaf.result c.locate-leaf.ensures in
    let none : (c.in-Some.by ≡ c.args.actor) → is_claim p (actor_at actors c.in-Some.by).claim ≡ false = λ e. ap (is_claim p) (ap (λ (i : ℕ). (actor_at actors i).claim) e ∙ c.requires.free) in
    (found.0, ((λ e. false≢true (sym (none e) ∙ found.1)), (claims_of p c.args.perm.now (actor_at actors c.in-Some.by).claim here found.1, refl)))

pub invariant_of-self : goal.invariant_of-self
invariant_of-self c =
    let b = c.self.inside in
    let h = c.self.invariant in
    let leaf = c.locate-leaf.result in
    let known : c.args.actor < length b.actors.items = subst (λ (x : BoardState). c.args.actor < length x.actors) (sym c.self.view_is) c.requires.known in
    let one = subst (λ (k : CatalogState). leaves_beginning c.args.perm.now k.leaves ≡ leaf ∷ []) h.board.cells c.locate-leaf.ensures in
    let free = subst (λ (x : BoardState). is_claimed leaf.prefix x.actors ≡ false) (sym c.self.view_is) c.in_default.ensures.none in
    let now = change_is (with_claim leaf.prefix) b.actors.items c.args.actor c.index_mut.result.now _ known c.index_mut.ensures.value (ap (λ (q : List ℕ). record c.index_mut.result.now { claim = Some q }) c.copy.ensures) in
    record {
      board = claim_board _ _ _ _ _ _ h.board leaf.prefix (kept_there c.args.perm.now (cells_of b.settings b.events.items) leaf one) free c.args.actor _ now;
      each = h.each;
      pages = h.pages;
      shared = h.shared;
      retired_are = h.retired_are;
    }

pub returns : goal.returns
returns c =
    let b = c.self.inside in
    let leaf = c.locate-leaf.result in
    let known : c.args.actor < length b.actors.items = subst (λ (x : BoardState). c.args.actor < length x.actors) (sym c.self.view_is) c.requires.known in
    let one = subst (λ (k : CatalogState). leaves_beginning c.args.perm.now k.leaves ≡ leaf ∷ []) c.self.invariant.board.cells c.locate-leaf.ensures in
    let now = change_is (with_claim leaf.prefix) b.actors.items c.args.actor c.index_mut.result.now _ known c.index_mut.ensures.value (ap (λ (q : List ℕ). record c.index_mut.result.now { claim = Some q }) c.copy.ensures) in
    let was = ap (with_actor (with_claim leaf.prefix) c.args.actor) c.self.view_is in
    (subst (λ (x : BoardState). leaves_beginning c.args.perm.now (cells_of x.settings x.log) ≡ leaf ∷ []) c.self.view_is one, (c.in_default.ensures.none, cc))
