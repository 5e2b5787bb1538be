-- Leaves that are to be split, and leaves that were.
use Rattle.std.specs.Prelude.{ℕ, ◌-◌, ◌&&◌, List, Bool, false, length, Option, Some, None}
use Rattle.std.specs.List.{list_any}
use Rattle.mi_base.specs.declared.records.LogEvent.{LogEvent}
use Rattle.mi_base.specs.Configuration.{Configuration}
use Rattle.mi_tree.specs.Births.{splits_in}
use Rattle.mi_tree.specs.Cells.{same_cell}
use Rattle.mi_tree.specs.Counting.{is_wanted}
use Rattle.mi_tree.specs.Legal.{cells_of}
use Rattle.mi_board.specs.Boards.{BoardState}

-- the leaf that is claimed is to be split
abbrev pub leaf_wanted : Configuration → List LogEvent → Option (List ℕ) → Bool
leaf_wanted c log None = false
leaf_wanted c log (Some p) = list_any (λ l. same_cell p l.prefix && is_wanted c.levels c.cell l) (cells_of c log)

-- how many of the leaves that were split were given to be swept: all but the retired ones
abbrev pub given_in : BoardState → ℕ
given_in b = length (splits_in b.log) - length b.retired
