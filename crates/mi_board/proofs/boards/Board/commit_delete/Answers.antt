use Rattle.std.proofs.Common.{◌≡◌, ◌∙◌, sym, ap, subst, arith, refl, ℕ, ◌<◌, ◌+◌, length, map, true, false, List, [], ◌∷◌, ◌++◌}
use Rattle.std.specs.Prelude.{All}
use Rattle.mi_base.specs.declared.records.LogEvent.TheVariants.{Update as Made}
use Rattle.mi_base.specs.declared.records.Update.TheVariants.{Delete}
use Rattle.mi_base.specs.History.{updates_of}
use Rattle.mi_base.specs.Permutations.{begins}
use Rattle.mi_board.specs.Actors.{with_reserved}
use Rattle.mi_board.specs.Boards.{BoardState, HasRoom, MayCommit, MayDelete, with_event}
use Rattle.mi_board.specs.Marks.{marked}
use Rattle.mi_board.proofs.ActorLemmas.{change_is}
use Rattle.mi_tree.specs.declared.outcomes.Leaf.{Leaf}
use Rattle.mi_tree.specs.Catalog.{CatalogState, prefixes_of}
use Rattle.std.specs.Prelude.{◌==◌}
use Rattle.mi_base.specs.History.{Object, TheOne, live}
use Rattle.mi_tree.specs.Cells.{same_cell}
use Rattle.mi_tree.specs.Counting.{with_removed}
use Rattle.mi_tree.specs.Legal.{cells_of}
use Rattle.mi_tree.proofs.LegalLemmas.{grid, one_live}
use Rattle.mi_tree.proofs.LimitLemmas.{is_grid}
use Rattle.mi_board.proofs.BoardLemmas.{any_first, counted, delete_cells, delete_legal, one_perm}
use Rattle.mi_board.proofs.CrowdLemmas.{removed_prefix}
use Rattle.mi_board.proofs.StepLemmas.{boards_equal, prefixes_same, update_holds}
use Rattle.mi_board.proofs.boards.Board.commit_delete.Goals as goal

pub remove-requires-clause-long : goal.remove-requires-clause-long
remove-requires-clause-long c =
    let b = c.self.inside in
    let ib = c.self.invariant.board in
    let lives = subst (λ (x : BoardState). MayDelete x c.args.id c.args.perm.now) (sym c.self.view_is) c.requires.object in
    let object : TheOne c.args.id (live (updates_of b.events.items)) = one_live b.settings b.events.items ib.legal c.args.id (any_first (λ (o : Object). o.id == c.args.id) (λ (o : Object). same_cell c.args.perm.now ((grid b.settings).perm o.vector)) (live (updates_of b.events.items)) lives) in
    let perm_is = one_perm (grid b.settings).perm c.args.id c.args.perm.now (live (updates_of b.events.items)) object lives in
    ap length perm_is ∙ ((is_grid b.settings ib.limits b.events.items ib.legal).perms object.object.vector).1 ∙ sym (ap (λ (k : CatalogState). k.pivots) ib.cells)

pub remove-requires-clause-some : goal.remove-requires-clause-some
remove-requires-clause-some c =
    let b = c.self.inside in
    let ib = c.self.invariant.board in
    let lives = subst (λ (x : BoardState). MayDelete x c.args.id c.args.perm.now) (sym c.self.view_is) c.requires.object in
    let object : TheOne c.args.id (live (updates_of b.events.items)) = one_live b.settings b.events.items ib.legal c.args.id (any_first (λ (o : Object). o.id == c.args.id) (λ (o : Object). same_cell c.args.perm.now ((grid b.settings).perm o.vector)) (live (updates_of b.events.items)) lives) in
    let perm_is = one_perm (grid b.settings).perm c.args.id c.args.perm.now (live (updates_of b.events.items)) object lives in
    let some = subst (λ (q : List ℕ). All (λ (l : Leaf). begins l.prefix q ≡ true → 0 < l.count) (cells_of b.settings b.events.items)) (sym perm_is) (counted b.settings ib.limits b.events.items ib.legal c.args.id object) in
    subst (λ (k : CatalogState). All (λ (l : Leaf). begins l.prefix c.args.perm.now ≡ true → 0 < l.count) k.leaves) (sym ib.cells) some

pub invariant_of-self : goal.invariant_of-self
invariant_of-self c =
    let b = c.self.inside in
    let h = c.self.invariant in
    let ib = h.board in
    let perm = c.args.perm.now in
    let may = subst (λ (x : BoardState). MayCommit x c.args.actor perm) (sym c.self.view_is) c.requires.may in
    let actors_is = change_is (with_reserved false) b.actors.items c.args.actor c.index_mut-state.result.now _ may.known c.index_mut-state.ensures.value c.enter.ensures.state in
    let lives = subst (λ (x : BoardState). MayDelete x c.args.id c.args.perm.now) (sym c.self.view_is) c.requires.object in
    let object : TheOne c.args.id (live (updates_of b.events.items)) = one_live b.settings b.events.items ib.legal c.args.id (any_first (λ (o : Object). o.id == c.args.id) (λ (o : Object). same_cell c.args.perm.now ((grid b.settings).perm o.vector)) (live (updates_of b.events.items)) lives) in
    let perm_is = one_perm (grid b.settings).perm c.args.id c.args.perm.now (live (updates_of b.events.items)) object lives in
    let legal = delete_legal b.settings ib.limits b.events.items ib.legal c.args.id object c.args.actor c.args.op (omega (arith, c.if-self-limit.false, c.limit_of-limit.ensures, ib.counted)) in
    let now = ap (λ (q : List ℕ). map (with_removed q) (cells_of b.settings b.events.items)) perm_is ∙ sym (delete_cells b.settings ib.limits b.events.items ib.legal c.args.id object c.args.actor c.args.op) in
    update_holds _ _ _ _ _ _ _ _ _ _ h c.args.actor c.args.op (Delete c.args.id) may.reserved legal (with_removed perm) (removed_prefix perm) now
    _ c.enter.ensures.events _ c.remove.ensures _ c.enter.ensures.updates _ actors_is _ c.enter.ensures.room

pub returns : goal.returns
returns c =
    let b = c.self.inside in
    let h = c.self.invariant in
    let ib = h.board in
    let perm = c.args.perm.now in
    let may = subst (λ (x : BoardState). MayCommit x c.args.actor perm) (sym c.self.view_is) c.requires.may in
    let actors_is = change_is (with_reserved false) b.actors.items c.args.actor c.index_mut-state.result.now _ may.known c.index_mut-state.ensures.value c.enter.ensures.state in
    let room : length (updates_of b.events.items) < b.settings.updates = omega (arith, c.if-self-limit.false, c.limit_of-limit.ensures, ib.counted) in
    let e = Made c.args.actor c.args.op (Delete c.args.id) in
    let marks = ap (λ (k : CatalogState). marked (prefixes_of k.leaves) b.marks.items) c.remove.ensures ∙ ap (λ (ps : List (List ℕ)). marked ps b.marks.items) (prefixes_same (with_removed perm) (removed_prefix perm) b.catalog.leaves) in (
      subst HasRoom c.self.view_is room,
      (
        refl,
        (
          c.enter.ensures.number ∙ ap (λ n. n + 1) (ib.counted ∙ ap (λ (x : BoardState). length (updates_of x.log)) c.self.view_is),
          boards_equal b.settings b.root b.height b.allotted _ c.enter.ensures.events actors_is refl marks ∙ ap (with_event e (with_reserved false) c.args.actor) c.self.view_is,
        ),
      ),
    )
