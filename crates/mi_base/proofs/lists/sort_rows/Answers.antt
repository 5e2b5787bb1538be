use Rattle.std.proofs.Common.{ap, ◌∙◌}
use Rattle.mi_base.specs.Sorting.{sorted}
use Rattle.mi_base.specs.History.{row_cmp}
use Rattle.mi_base.proofs.HistoryLemmas.{sorted_rows}
use Rattle.mi_base.proofs.lists.sort_rows.Goals as goal

pub returns : goal.returns
returns c =
    let s = c.sort_unstable.ensures in
    let old = c.rows.inside.items.items in
    sorted_rows old c.sort_unstable.new.self.items s.permutation s.sorted ∙ ap (sorted row_cmp) c.rows.view_is
