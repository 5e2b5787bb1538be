-- The figures of an outcome, line by line.
use Rattle.std.specs.Prelude.{ℕ, ◌-◌, ◌^◌, List, [], ◌∷◌, ◌++◌, length, codes, min}
use Rattle.std.specs.List.{sum_by}
use Rattle.mi_base.specs.declared.records.Reply.{Reply}
use Rattle.mi_base.specs.declared.records.Reply.TheVariants.{Stored, Removed, Present, Absent, Full, NoPages, Memory, Range, Nearest}
use Rattle.mi_base.specs.History.{updates_of}
use Rattle.mi_tree.specs.declared.outcomes.Outcome.{Outcome}
use Rattle.mi_print.specs.declared.figures.Figure.{Figure}
use Rattle.mi_print.specs.declared.figures.Figure.TheVariants.{Queries, Rows, Opened, Distances}
use Rattle.mi_print.specs.Render.{number_line}

-- what a reply adds to a figure: one query, its rows, the leaves that it opened, and of a range query the distances that it computed
abbrev pub added_by : Figure → Reply → ℕ
added_by Queries (Range p rows cells distances) = 1
added_by Queries (Nearest p rows cells) = 1
added_by Rows (Range p rows cells distances) = length rows
added_by Rows (Nearest p rows cells) = length rows
added_by Opened (Range p rows cells distances) = cells
added_by Opened (Nearest p rows cells) = cells
added_by Distances (Range p rows cells distances) = distances
added_by figure reply = 0

-- a figure over the replies to all scripts; it stops at the greatest number of 64 bits
abbrev pub figure_of : List (List Reply) → Figure → ℕ
figure_of replies figure = min (sum_by (sum_by (added_by figure)) replies) (2 ^ 64 - 1)

abbrev pub log_figures : ℕ → Outcome → List ℕ
log_figures seed o =
    (number_line (codes "seed") (seed ∷ []) ++ number_line (codes "updates") (length (updates_of o.log) ∷ []))
    ++ (number_line (codes "splits") ((length o.log - length (updates_of o.log)) ∷ []) ++ number_line (codes "cells") (length o.cells ∷ []))

abbrev pub page_figures : Outcome → List ℕ
page_figures o = number_line (codes "entries") (o.entries ∷ []) ++ number_line (codes "pages") (o.allotted ∷ o.limit ∷ [])

abbrev pub query_figures : List (List Reply) → List ℕ
query_figures replies =
    (number_line (codes "queries") (figure_of replies Queries ∷ []) ++ number_line (codes "rows") (figure_of replies Rows ∷ []))
    ++ (number_line (codes "opened") (figure_of replies Opened ∷ []) ++ number_line (codes "distances") (figure_of replies Distances ∷ []))

-- the seed and the log, the entries and pages, and the queries
abbrev pub summary : ℕ → Outcome → List ℕ
summary seed o = log_figures seed o ++ (page_figures o ++ query_figures o.replies)
