use Rattle.std.proofs.Common.{◌≡◌, ◌∙◌, sym, ap, subst, Some, Bool, true, false, not, ◌<◌, length, get_or, List}
use Rattle.std.specs.List.{slice_get}
use Rattle.mi_board.specs.Actors.{is_claimed}
use Rattle.mi_board.specs.Boards.{BoardState, is_open, is_passed}
use Rattle.mi_board.proofs.FoundLemmas.{find_here, find_more, is_free_open, not_free, not_open}
use Rattle.mi_board.proofs.MarkLemmas.{cells_in_order, passed_at}
use Rattle.mi_tree.specs.Catalog.{CatalogState, prefixes_of}
use Rattle.mi_tree.specs.Counting.{is_wanted}
use Rattle.mi_tree.specs.Legal.{cells_of}
use Rattle.mi_tree.specs.Order.{in_order}
use Rattle.mi_board.proofs.boards.Board.next_split.Goals as goal
use Rattle.mi_board.proofs.boards.Board.next_split.Goals.{else-not-passed_over-via-then-not-passed_over+else-is_free, else-not-passed_over-via-else-not-passed_over}

pub loop-place-preserved : goal.loop-place-preserved
loop-place-preserved c =
    let s = c.args.self.now in
    let b = c.self.inside in
    let leaf = c.leaf-leaf.result.now in
    let i = c.loop-place.place in
    let ms = c.deref-passed_over-items.result.now in
    let here = subst (λ (k : CatalogState). slice_get k.leaves i ≡ Some leaf) c.self.invariant.board.cells c.leaf-leaf.ensures in
    let at = subst (λ (x : BoardState). slice_get (cells_of x.settings x.log) i ≡ Some leaf) c.self.view_is here in
    let order = subst (λ (k : CatalogState). in_order (prefixes_of k.leaves) ≡ true) (sym c.self.invariant.board.cells) (cells_in_order b.settings b.events.items) in
    let marks : ms ≡ b.marks.items = c.deref-passed_over-items.ensures.value in
    let within : i < length b.marks.items = subst (λ (xs : List Bool). i < length xs) marks c.loop-place-test.true in
    let passed : is_passed leaf.prefix s ≡ get_or ms i false =
    ap (λ (x : BoardState). is_passed leaf.prefix x) (sym c.self.view_is) ∙ passed_at b.catalog.leaves b.marks.items i leaf order c.leaf-leaf.ensures within ∙ ap (λ (xs : List Bool). get_or xs i false) (sym marks) in
    let wanted = is_wanted s.settings.levels s.settings.cell leaf in
    let free = not (is_claimed leaf.prefix s.actors) in
    elim c.else-not-passed_over.branch [
      | else-not-passed_over-via-then-not-passed_over+else-is_free w ↦
          find_more (is_open s) (cells_of s.settings s.log) i leaf c.loop-place.invariant at (not_free wanted free (not (is_passed leaf.prefix s)) (sym w.is_free.ensures ∙ w.if-is_free.false))
      | else-not-passed_over-via-else-not-passed_over w ↦
          find_more (is_open s) (cells_of s.settings s.log) i leaf c.loop-place.invariant at (not_open wanted free (is_passed leaf.prefix s) (passed ∙ w.if-not-passed_over.false))
    ]

pub returns-then-is_free : goal.returns-then-is_free
returns-then-is_free c =
    let s = c.args.self.now in
    let b = c.self.inside in
    let leaf = c.leaf-leaf.result.now in
    let i = c.loop-place.place in
    let ms = c.deref-passed_over-items.result.now in
    let here = subst (λ (k : CatalogState). slice_get k.leaves i ≡ Some leaf) c.self.invariant.board.cells c.leaf-leaf.ensures in
    let at = subst (λ (x : BoardState). slice_get (cells_of x.settings x.log) i ≡ Some leaf) c.self.view_is here in
    let order = subst (λ (k : CatalogState). in_order (prefixes_of k.leaves) ≡ true) (sym c.self.invariant.board.cells) (cells_in_order b.settings b.events.items) in
    let marks : ms ≡ b.marks.items = c.deref-passed_over-items.ensures.value in
    let within : i < length b.marks.items = subst (λ (xs : List Bool). i < length xs) marks c.loop-place-test.true in
    let passed : is_passed leaf.prefix s ≡ get_or ms i false =
    ap (λ (x : BoardState). is_passed leaf.prefix x) (sym c.self.view_is) ∙ passed_at b.catalog.leaves b.marks.items i leaf order c.leaf-leaf.ensures within ∙ ap (λ (xs : List Bool). get_or xs i false) (sym marks) in
    let open_is = is_free_open (is_wanted s.settings.levels s.settings.cell leaf) (not (is_claimed leaf.prefix s.actors)) (is_passed leaf.prefix s) (sym c.is_free.ensures ∙ c.if-is_free.true) (passed ∙ c.if-not-passed_over.true) in
    ap Some c.copy.ensures ∙ sym (find_here (is_open s) (cells_of s.settings s.log) i leaf c.loop-place.invariant at open_is)
