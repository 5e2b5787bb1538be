use Rattle.std.proofs.Common.{◌≡◌, ◌∙◌, sym, subst, refl, Some, true, ◌&&◌}
use Rattle.std.specs.List.{slice_get}
use Rattle.mi_base.specs.Configuration.{Configuration}
use Rattle.test_board.proofs.ConditionLemmas.{any_at}
use Rattle.mi_tree.specs.declared.outcomes.Leaf.{Leaf}
use Rattle.mi_tree.specs.Catalog.{CatalogState}
use Rattle.mi_tree.specs.Cells.{same_cell}
use Rattle.mi_tree.specs.Counting.{is_wanted}
use Rattle.mi_tree.specs.Legal.{cells_of}
use Rattle.test_board.proofs.conditions.is_wanted.Goals as goal

pub returns-then-is_wanted : goal.returns-then-is_wanted
returns-then-is_wanted c = λ _.
    let b = c.args.board.now in
    let leaf = c.leaf-leaf.result.now in
    let settings = c.settings.view_is ∙ c.settings-settings.ensures in
    let at : slice_get (cells_of b.settings b.log) c.loop-place.place ≡ Some leaf = subst (λ (k : CatalogState). slice_get k.leaves c.loop-place.place ≡ Some leaf) c.catalog-cells.ensures c.leaf-leaf.ensures in
    let same : same_cell c.args.prefix.now leaf.prefix ≡ true = sym c.is_same.ensures ∙ c.if-is_same.true in
    let wanted : is_wanted b.settings.levels b.settings.cell leaf ≡ true = subst (λ (k : Configuration). is_wanted k.levels k.cell leaf ≡ true) settings (sym c.is_wanted.ensures ∙ c.if-is_wanted.true) in
    any_at (λ (l : Leaf). same_cell c.args.prefix.now l.prefix && is_wanted b.settings.levels b.settings.cell l) (cells_of b.settings b.log) c.loop-place.place leaf at (rw (same, wanted) refl)
