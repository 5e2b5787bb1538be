use Rattle.std.proofs.Common.{◌≡◌, ◌∙◌, sym, ap, subst, arith, refl, ℕ, ◌<◌, ◌+◌, ◌^◌, length, map, true, false, None, List, [], ◌∷◌, ◌++◌}
use Rattle.std.specs.Prelude.{All}
use Rattle.mi_base.specs.declared.records.LogEvent.TheVariants.{Update as Made}
use Rattle.mi_base.specs.declared.records.Update.TheVariants.{Insert}
use Rattle.mi_base.specs.History.{updates_of}
use Rattle.mi_base.specs.Permutations.{begins}
use Rattle.mi_board.specs.Actors.{with_reserved}
use Rattle.mi_board.specs.Boards.{BoardState, HasRoom, MayCommit, MayInsert, crowded_at, with_event}
use Rattle.mi_board.specs.Marks.{marked}
use Rattle.mi_board.proofs.ActorLemmas.{change_is}
use Rattle.mi_tree.specs.declared.outcomes.Leaf.{Leaf}
use Rattle.mi_tree.specs.Catalog.{CatalogState, prefixes_of}
use Rattle.mi_tree.specs.Counting.{leaves_beginning, with_added}
use Rattle.mi_tree.specs.Legal.{LegalLog}
use Rattle.mi_tree.proofs.LimitLemmas.{is_grid}
use Rattle.mi_board.proofs.BoardLemmas.{counts_room, insert_legal}
use Rattle.mi_board.proofs.CrowdLemmas.{added_prefix, crowded_one}
use Rattle.mi_board.proofs.StepLemmas.{boards_equal, insert_now, prefixes_same, update_holds}
use Rattle.mi_board.proofs.boards.Board.commit_insert.Goals as goal

pub locate-leaf-requires : goal.locate-leaf-requires
locate-leaf-requires c =
    let b = c.self.inside in
    let ib = c.self.invariant.board in
    let object = subst (λ (x : BoardState). MayInsert x c.args.id c.args.vector.now c.args.perm.now c.args.distance) (sym c.self.view_is) c.requires.object in
    ap length object.perm_is ∙ ((is_grid b.settings ib.limits b.events.items ib.legal).perms c.args.vector.now).1 ∙ sym (ap (λ (k : CatalogState). k.pivots) ib.cells)

pub returns-then-is_crowded : goal.returns-then-is_crowded
returns-then-is_crowded c =
    let b = c.self.inside in
    let ib = c.self.invariant.board in
    let perm = c.args.perm.now in
    let leaf = c.locate-leaf.result in
    let one = subst (λ (k : CatalogState). leaves_beginning perm k.leaves ≡ leaf ∷ []) ib.cells c.locate-leaf.ensures in
    let room : length (updates_of b.events.items) < b.settings.updates = omega (arith, c.if-self-limit.false, c.limit_of-limit.ensures, ib.counted) in
    let crowded = crowded_one perm b.settings.levels b.settings.cell _ leaf one ∙ sym c.is_crowded.ensures ∙ c.if-is_crowded.true in
    (subst HasRoom c.self.view_is room, (subst (λ (x : BoardState). crowded_at x perm ≡ true) c.self.view_is crowded, refl))

pub add-requires-clause-long : goal.add-requires-clause-long
add-requires-clause-long c =
    let b = c.self.inside in
    let ib = c.self.invariant.board in
    let object = subst (λ (x : BoardState). MayInsert x c.args.id c.args.vector.now c.args.perm.now c.args.distance) (sym c.self.view_is) c.requires.object in
    ap length object.perm_is ∙ ((is_grid b.settings ib.limits b.events.items ib.legal).perms c.args.vector.now).1 ∙ sym (ap (λ (k : CatalogState). k.pivots) ib.cells)

pub add-requires-clause-room : goal.add-requires-clause-room
add-requires-clause-room c =
    let b = c.self.inside in
    let ib = c.self.invariant.board in
    subst (λ (k : CatalogState). All (λ (l : Leaf). begins l.prefix c.args.perm.now ≡ true → l.count < 4294967295) k.leaves) (sym ib.cells) (counts_room b.settings ib.limits b.events.items ib.legal c.args.perm.now)

pub invariant_of-self : goal.invariant_of-self
invariant_of-self c =
    let b = c.self.inside in
    let h = c.self.invariant in
    let ib = h.board in
    let perm = c.args.perm.now in
    let may = subst (λ (x : BoardState). MayCommit x c.args.actor perm) (sym c.self.view_is) c.requires.may in
    let actors_is = change_is (with_reserved false) b.actors.items c.args.actor c.index_mut-state.result.now _ may.known c.index_mut-state.ensures.value c.enter.ensures.state in
    let id = c.args.id in
    let v = c.args.vector.now in
    let leaf = c.locate-leaf.result in
    let object = subst (λ (x : BoardState). MayInsert x id v perm c.args.distance) (sym c.self.view_is) c.requires.object in
    let one = subst (λ (k : CatalogState). leaves_beginning perm k.leaves ≡ leaf ∷ []) ib.cells c.locate-leaf.ensures in
    let free = crowded_one perm b.settings.levels b.settings.cell _ leaf one ∙ sym c.is_crowded.ensures ∙ c.if-is_crowded.false in
    let vw : BoardState = record { settings = b.settings; log = b.events.items; actors = []; retired = []; passed_over = []; root = 0; height = 0; allotted = 0; kept_at = None } in
    let calm = subst (λ (q : List ℕ). crowded_at vw q ≡ false) object.perm_is free in
    let named : id < 2 ^ 40 = omega (arith, c.get.ensures.same, c.get.ensures.small) in
    let legal = insert_legal b.settings ib.limits b.events.items ib.legal c.args.actor c.args.op id v object.fits object.absent named (omega (arith, c.if-self-limit.false, c.limit_of-limit.ensures, ib.counted)) calm in
    let log_is = c.enter.ensures.events ∙ ap (λ x. b.events.items ++ Made c.args.actor c.args.op (Insert id x) ∷ []) c.copy.ensures in
    update_holds _ _ _ _ _ _ _ _ _ _ h c.args.actor c.args.op (Insert id v) may.reserved legal (with_added perm c.args.distance) (added_prefix perm c.args.distance)
    (insert_now b.settings b.events.items c.args.actor c.args.op id v perm c.args.distance object.perm_is object.distance_is)
    _ log_is _ c.add.ensures _ c.enter.ensures.updates _ actors_is _ c.enter.ensures.room

pub returns : goal.returns
returns c =
    let b = c.self.inside in
    let h = c.self.invariant in
    let ib = h.board in
    let perm = c.args.perm.now in
    let may = subst (λ (x : BoardState). MayCommit x c.args.actor perm) (sym c.self.view_is) c.requires.may in
    let actors_is = change_is (with_reserved false) b.actors.items c.args.actor c.index_mut-state.result.now _ may.known c.index_mut-state.ensures.value c.enter.ensures.state in
    let leaf = c.locate-leaf.result in
    let one = subst (λ (k : CatalogState). leaves_beginning perm k.leaves ≡ leaf ∷ []) ib.cells c.locate-leaf.ensures in
    let free = crowded_one perm b.settings.levels b.settings.cell _ leaf one ∙ sym c.is_crowded.ensures ∙ c.if-is_crowded.false in
    let room : length (updates_of b.events.items) < b.settings.updates = omega (arith, c.if-self-limit.false, c.limit_of-limit.ensures, ib.counted) in
    let log_is = c.enter.ensures.events ∙ ap (λ x. b.events.items ++ Made c.args.actor c.args.op (Insert c.args.id x) ∷ []) c.copy.ensures in
    let e = Made c.args.actor c.args.op (Insert c.args.id c.args.vector.now) in
    let marks = ap (λ (k : CatalogState). marked (prefixes_of k.leaves) b.marks.items) c.add.ensures ∙ ap (λ (ps : List (List ℕ)). marked ps b.marks.items) (prefixes_same (with_added perm c.args.distance) (added_prefix perm c.args.distance) b.catalog.leaves) in (
      subst HasRoom c.self.view_is room,
      (
        subst (λ (x : BoardState). crowded_at x perm ≡ false) c.self.view_is free,
        (
          c.enter.ensures.number ∙ ap (λ n. n + 1) (ib.counted ∙ ap (λ (x : BoardState). length (updates_of x.log)) c.self.view_is),
          boards_equal b.settings b.root b.height b.allotted _ log_is actors_is refl marks ∙ ap (with_event e (with_reserved false) c.args.actor) c.self.view_is,
        ),
      ),
    )
